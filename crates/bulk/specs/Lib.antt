pub mod DumpBytes
