-- Which numbers are counted.
use Rattle.std.specs.Prelude.{ℕ, Bool, ◌==◌, nat_lt}
use Rattle.counting.specs.declared.counts.Wanted.{Wanted}
use Rattle.counting.specs.declared.counts.Wanted.TheVariants.{Is, Below}

-- a number itself, or all below a limit
abbrev pub wanted : Wanted → ℕ → Bool
wanted (Is one) n = one == n
wanted (Below limit) n = nat_lt n limit
