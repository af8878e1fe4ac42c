-- `pool::reply_words` meets its contract.
-- Assumes nothing.
use native.Mathlib.Omega.{arith}
use Prim.Native.Nat.{◌%◌}
use Rattle.pool.proofs.ReplyBytes.{reply_as_words}
use Rattle.pool.proofs.reply_words.Goals as goal

pub returns : goal.returns
returns c =
    let a = c.args in
    let h = a.h in
    rw (c.from-sequence.ensures, c.from.ensures, c.from-2.ensures, c.from-3.ensures) (reply_as_words (h.count % 16384) (h.unit % 16) (h.transaction % 4096) a.pool a.f (omega arith) (omega arith))
