-- Each range of the table is an arm of the code and a choice of the definition.
use native.Mathlib.Omega.{arith}
use Rattle.btid.proofs.Letters.{upper_six, lower_six, digit-six, plus-six, slash_six, no_six}
use Rattle.btid.proofs.six.Goals as goal

pub returns-in-43 : goal.returns-in-43
returns-in-43 c = plus-six _ c.in-43.is

pub returns-in-47 : goal.returns-in-47
returns-in-47 c = slash_six _ c.in-47.is

pub returns-in-48-to-57 : goal.returns-in-48-to-57
returns-in-48-to-57 c = digit-six _ (omega arith) (omega arith)

pub returns-in-65-to-90 : goal.returns-in-65-to-90
returns-in-65-to-90 c = upper_six _ (omega arith) (omega arith)

pub returns-in-97-to-122 : goal.returns-in-97-to-122
returns-in-97-to-122 c = lower_six _ (omega arith) (omega arith)

pub returns-in_default : goal.returns-in_default
returns-in_default c = no_six _ (omega arith) (omega arith) (omega arith) (omega arith) (omega arith)

pub returns-in_default-2 : goal.returns-in_default-2
returns-in_default-2 c = no_six _ (omega arith) (omega arith) (omega arith) (omega arith) (omega arith)

pub returns-in_default-3 : goal.returns-in_default-3
returns-in_default-3 c = no_six _ (omega arith) (omega arith) (omega arith) (omega arith) (omega arith)

pub returns-in_default-4 : goal.returns-in_default-4
returns-in_default-4 c = no_six _ (omega arith) (omega arith) (omega arith) (omega arith) (omega arith)
