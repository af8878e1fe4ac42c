-- `answers::put_records`'s invariant: the first i records are written.
-- Assumes nothing.
use Rattle.std.proofs.Common.{◌≡◌, length}
use Rattle.answers.specs.Records.{put_records}
use Rattle.answers.proofs.put_records.Given as goal

abbrev pub invariant-loop-i : goal.invariant-loop-i
invariant-loop-i l = (length l.answers ≡ length l.initial.answers) × (l.answers ≡ put_records l.initial.answers l.fn.a l.i)
