-- `command_writer::put_rest` meets its contract.
-- Assumes nothing.
use native.Mathlib.Omega.{arith}
use mathlib.Core.Path.{ap}
use Rattle.rules.specs.Packets.{packet_length}
use Rattle.command_writer.proofs.Steps.{load_written}
use Rattle.command_writer.proofs.put_rest.Goals as goal

pub put_request-requires : goal.put_request-requires
put_request-requires c =
    let e = ap packet_length c.in-Dump.is in
    (c.requires.0, omega (arith, c.requires.1))

pub put_identity-requires : goal.put_identity-requires
put_identity-requires c =
    let e = ap packet_length c.in-Cancel.is in
    (c.requires.0, omega (arith, c.requires.1))

pub put_request-request-requires : goal.put_request-request-requires
put_request-request-requires c =
    let e = ap packet_length c.in-Load.is in
    (c.requires.0, omega (arith, c.requires.1))

pub put_data-requires : goal.put_data-requires
put_data-requires c =
    let e = ap packet_length c.in-Load.is in
    omega (arith, c.requires.1)

pub put_pool-requires : goal.put_pool-requires
put_pool-requires c =
    let e = ap packet_length c.in-PoolStatistics.is in
    (c.requires.0, omega (arith, c.requires.1))

pub put_name-requires : goal.put_name-requires
put_name-requires c =
    let e = ap packet_length c.in-SymbolValue.is in
    (c.requires.0, omega (arith, c.requires.1))

pub put_symbol_request-requires : goal.put_symbol_request-requires
put_symbol_request-requires c =
    let e = ap packet_length c.in-DumpSymbol.is in
    (c.requires.0, omega (arith, c.requires.1))

pub returns-in-Dump : goal.returns-in-Dump
returns-in-Dump c = rw c.in-Dump.is c.put_request.ensures

pub returns-in-Cancel : goal.returns-in-Cancel
returns-in-Cancel c = rw c.in-Cancel.is c.put_identity.ensures

pub returns-in-Load : goal.returns-in-Load
returns-in-Load c =
    let e = ap packet_length c.in-Load.is in
    rw c.in-Load.is
    (load_written c.args.b.now _ _ c.args.id _ c.args.words.now _ _ (omega (arith, c.requires.1)) c.put_request-request.ensures.0
    c.put_data.ensures.0
    c.put_request-request.ensures.1
    c.put_data.ensures.1)

pub returns-in-PoolStatistics : goal.returns-in-PoolStatistics
returns-in-PoolStatistics c = rw c.in-PoolStatistics.is c.put_pool.ensures

pub returns-in-SymbolValue : goal.returns-in-SymbolValue
returns-in-SymbolValue c = rw c.in-SymbolValue.is c.put_name.ensures

pub returns-in-DumpSymbol : goal.returns-in-DumpSymbol
returns-in-DumpSymbol c = rw c.in-DumpSymbol.is c.put_symbol_request.ensures
