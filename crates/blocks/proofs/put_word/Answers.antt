-- The octets that are copied are those of the word.
use Rattle.std.proofs.Common.{◌∙◌}
use Rattle.blocks.proofs.Words.{word-put}
use Rattle.blocks.proofs.put_word.Goals as goal

pub returns : goal.returns
returns c = word-put _ _ _ _ (c.copy_from_slice.ensures.after ∙ c.to_be_bytes.ensures)
