-- A group of one, two or three octets is one case of the definition each.
use Rattle.std.proofs.Common.{arith}
use Rattle.btid.proofs.Laws.{one_letters, two_letters, three_letters}
use Rattle.btid.proofs.letters_of.Goals as goal

pub returns-in-len1 : goal.returns-in-len1
returns-in-len1 c = cc (one_letters c.args.group.now (omega arith))

pub returns-in-len2 : goal.returns-in-len2
returns-in-len2 c = cc (two_letters c.args.group.now (omega arith))

pub returns-in-len3 : goal.returns-in-len3
returns-in-len3 c = cc (three_letters c.args.group.now (omega arith))
