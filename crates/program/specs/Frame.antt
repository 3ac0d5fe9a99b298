-- 01, "The event program": an event stands after its body length, from 1 up to the longest, as a number.
use Rattle.std.specs.Prelude.{ℕ, Result, List}
use Rattle.limits.specs.Limits.{BODY}
use Rattle.line.specs.declared.Span.{Span}
use Rattle.program.specs.Cut.{text_in}
use Rattle.program.specs.declared.Stop.{Stop}

-- where the body stands; more input where it ends within the length or the body; else a bad length
unfoldable pub frame_at : List ℕ → ℕ → Result Span Stop
frame_at s at = text_in s at 1 BODY
