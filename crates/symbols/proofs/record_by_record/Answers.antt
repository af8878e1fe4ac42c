-- `symbols::record_by_record` states what a table with one record more is, which proofs/Grown.antt proves.
-- Assumes nothing.
use Rattle.symbols.proofs.Grown.{record_by_record}
use Rattle.symbols.proofs.record_by_record.Goals as goal

pub returns : goal.returns
returns c = record_by_record
