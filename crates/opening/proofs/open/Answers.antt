-- Each refusal is a line of the rule; the last line is the closed state with the opening's values.
use Rattle.flow.proofs.Chains.{chain}
use Rattle.rules.specs.Opening.{open_rule}
use Rattle.opening.proofs.Laws.{opening-refused, opening-made, opened-fresh}
use borrow.Author.Rules.{rules}
use Rattle.opening.proofs.open.Goals as goal
use Rattle.opening.proofs.open.Goals.{then-is_empty-via-then-is_empty, then-is_empty-via-else-is_empty+then-domain-gt-NAME, then-is_empty-via-else-is_empty+else-domain-gt-NAME+then-restart-gt-WORD}
use Rattle.opening.proofs.open.Goals.{then-lifetime-lt-LIFETIME_LEAST-via-then-lifetime-lt-LIFETIME_LEAST, then-lifetime-lt-LIFETIME_LEAST-via-else-lifetime-lt-LIFETIME_LEAST+then-lifetime-gt-LIFETIME_MOST}

pub returns-then-is_empty : goal.returns-then-is_empty
unfolding open_rule
returns-then-is_empty c = elim c.then-is_empty.branch [
  | then-is_empty-via-then-is_empty w ↦ search (opening-refused, chain, rules) depth 12
  | then-is_empty-via-else-is_empty+then-domain-gt-NAME w ↦ search (opening-refused, chain, rules) depth 12
  | then-is_empty-via-else-is_empty+else-domain-gt-NAME+then-restart-gt-WORD w ↦ search (opening-refused, chain, rules) depth 12
]

pub returns-then-lifetime-lt-LIFETIME_LEAST : goal.returns-then-lifetime-lt-LIFETIME_LEAST
unfolding open_rule
returns-then-lifetime-lt-LIFETIME_LEAST c = elim c.then-lifetime-lt-LIFETIME_LEAST.branch [
  | then-lifetime-lt-LIFETIME_LEAST-via-then-lifetime-lt-LIFETIME_LEAST w ↦ search (opening-refused, chain, rules) depth 12
  | then-lifetime-lt-LIFETIME_LEAST-via-else-lifetime-lt-LIFETIME_LEAST+then-lifetime-gt-LIFETIME_MOST w ↦ search (opening-refused, chain, rules) depth 12
]

pub returns : goal.returns
unfolding open_rule
returns c = opening-made _ _ _ (opened-fresh _ _ _ _ _ c.closed.ensures c.of-state.ensures) (search (chain, rules) depth 12)
