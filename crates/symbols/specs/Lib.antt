pub mod Table
pub mod Answers
pub mod Record
pub mod Words
pub mod RecordByRecord
