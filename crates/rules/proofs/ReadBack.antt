-- Packets are written and read back as laid down, from the parts.
-- Assumes nothing.
use Rattle.rules.specs.ReadBack.{ReadBack}
use Rattle.rules.proofs.WritesWhen.{writes_when, writes_length}
use Rattle.rules.proofs.WriteRead.{write_read}
use Rattle.rules.proofs.ReadWrite.{read_write}
use Rattle.rules.proofs.SlotRead.{slot_read}
use Rattle.rules.proofs.ReadSlot.{read_slot}

pub read_back : ReadBack
read_back = record { writes_when = writes_when; writes_length = writes_length; write_read = write_read; read_write = read_write; slot_read = slot_read; read_slot = read_slot }
