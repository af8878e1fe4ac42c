-- `packet::field_rules` meets its contract.
-- Assumes nothing.
use Rattle.rules.specs.Packets.{field_rules}
use Rattle.packet.proofs.field_rules.Goals as goal

pub returns-in-Dump : goal.returns-in-Dump
unfolding field_rules
returns-in-Dump c = rw c.in-Dump.is c.dump_rules.ensures

pub returns-in-Cancel : goal.returns-in-Cancel
unfolding field_rules
returns-in-Cancel c = rw c.in-Cancel.is

pub returns-in-Load : goal.returns-in-Load
unfolding field_rules
returns-in-Load c = rw c.in-Load.is c.load_rules.ensures

pub returns-in-PoolStatistics : goal.returns-in-PoolStatistics
unfolding field_rules
returns-in-PoolStatistics c = rw c.in-PoolStatistics.is c.pool_rules.ensures

pub returns-in-SymbolValue : goal.returns-in-SymbolValue
unfolding field_rules
returns-in-SymbolValue c = rw (c.in-SymbolValue.is, c.name_fits.ensures)

pub returns-in-DumpSymbol : goal.returns-in-DumpSymbol
unfolding field_rules
returns-in-DumpSymbol c = rw (c.in-DumpSymbol.is, c.name_fits-in-DumpSymbol.ensures)
