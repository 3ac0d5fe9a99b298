-- An answer's octets are those of the table: so what is written is read, and what is read was written.
use Prim.Native.Nat.{ℕ}
use mathlib.Core.Path.{◌≡◌, refl, ap, ◌∙◌}
use mathlib.Core.Bool.{true}
use mathlib.Core.List.{List, [], ◌∷◌, ◌++◌, append_assoc}
use lib.ListN.{length}
use Rattle.flow.specs.Front.{◌▹◌}
use Rattle.line.specs.Number.{Octets, encode}
use Rattle.line.specs.Text.{text_octets}
use Rattle.format.specs.Read.{got}
use Rattle.format.specs.Format.{octets, fits, good, apart, decode}
use Rattle.format.proofs.Laws.{decode_written, Whole, decode_whole}
use Rattle.answer.specs.Answer.{Answer, opened, challenge, made, aborted, keyed, wrong, Wanted, absent, present, encode_of, wanted_of, identity_of}
use Rattle.answer.specs.Values.{AnswerValues, wanted_values, values_of}
use Rattle.answer.specs.Table.{OPENED, CHALLENGE, MADE, ENTRY, WANTED, KEYED, ANSWER}

-- the table's numbers are in range, and its kinds apart
pub answer-good : good ANSWER ≡ true
unfolding good apart ANSWER OPENED CHALLENGE MADE ENTRY KEYED
answer-good = refl

-- reading what was written gives the values again
pub answer-read : (v : AnswerValues) → fits ANSWER v ≡ true → decode ANSWER (octets ANSWER v) ≡ got v (length (octets ANSWER v))
answer-read v ok = decode_written ANSWER v answer-good ok

-- writing what was read gives the same octets, and what is read is in range
pub answer_written : (s : List ℕ) (v : AnswerValues) (end : ℕ) → Octets s → decode ANSWER s ≡ got v end → Whole ANSWER s v
answer_written s v end o e = decode_whole ANSWER s v end o e

-- ---- the server's answers

wanted-means : (w : Wanted) → wanted_of w ≡ octets WANTED (wanted_values w)
unfolding wanted_of wanted_values octets ENTRY ◌▹◌
wanted-means absent = refl
wanted-means (present e) = refl

regrouped : (k a b c d w : List ℕ) → (k ++ a ++ b ++ c ++ d) ++ w ≡ k ++ (a ++ (b ++ (c ++ (d ++ w))))
regrouped k a b c d w = simp append_assoc

pub answers_means : (a : Answer) → encode_of a ≡ octets ANSWER (values_of a)
unfolding encode_of values_of octets ANSWER OPENED CHALLENGE MADE KEYED ◌▹◌
answers_means (opened restart run timestamp) = simp append_assoc
answers_means (challenge rand autn) = refl
answers_means (made btid start expiry) = simp append_assoc
answers_means aborted = refl
answers_means (keyed a) =
    let key = (5 ∷ []) ++ a.key in
    let impi = text_octets (identity_of a.shown a.subject) in
    ap (λ (l : List ℕ). (((key ++ encode a.start) ++ encode a.expiry) ++ impi) ++ l) (wanted-means a.wanted)
    ∙ regrouped (5 ∷ []) a.key (encode a.start) (encode a.expiry) impi (octets WANTED (wanted_values a.wanted))
answers_means wrong = refl

-- what the server answers is read back, with its values
pub answers_read : (a : Answer) → fits ANSWER (values_of a) ≡ true → decode ANSWER (encode_of a) ≡ got (values_of a) (length (encode_of a))
answers_read a ok = rw (answers_means a) (answer-read (values_of a) ok)
