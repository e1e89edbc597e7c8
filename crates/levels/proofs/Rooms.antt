-- The bytes that each coder takes hold its levels, and no more than their groups take.
use Rattle.std.proofs.Common.{◌≡◌, ℕ, ◌*◌, arith}
use Rattle.bits.specs.Packing.{groups, Room}
use Rattle.levels.specs.Formats.{bytes_for}
use Rattle.levels.specs.Laws.{room_packed}
use Rattle.levels.specs.Lists.{Limits}

pub legacy_room : (n b k : ℕ) → Limits n b → k ≡ bytes_for (n * b) → Room n b k
legacy_room n b k l e = record {
  few = l.few;
  narrow = l.narrow;
  holds = omega arith;
  grouped = omega (arith, room_packed n b);
}

pub packed_room : (n b k : ℕ) → Limits n b → k ≡ groups n * b → Room n b k
packed_room n b k l e = record { few = l.few; narrow = l.narrow; holds = omega (arith, room_packed n b); grouped = omega arith }
