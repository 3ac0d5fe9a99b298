-- The letters of the groups so far stand in front, and the letters of the whole are these and those of the octets left.
use Rattle.std.proofs.Common.{◌≡◌}
use Rattle.std.specs.Slice.Iter.{chunks_rest, chunks_size}
use Rattle.btid.proofs.Laws.{Going}
use Rattle.btid.proofs.put_base64.Given as goal

abbrev pub invariant-loop-group : goal.invariant-loop-group
invariant-loop-group l = record {
  size : chunks_size l.group-iterator ≡ 3;
  going : Going l.s (chunks_rest l.group-iterator) l.initial.out l.out l.at;
}
