-- A page that takes levels, one of each kind at a time, and then values.
use Rattle.std.proofs.Common.{◌≡◌, ℕ, ◌+◌, ◌≤◌, List, ◌++◌, length, Some, None, Option, ap, arith}
use Rattle.std.proofs.lemmas.List.{append-nil}
use Rattle.buffers.specs.Buffers.{Appended}
use Rattle.ledger.specs.Pages.{Page, join}
use Rattle.open_page.specs.Opened.{slots, filled}

-- bytes that have room are appended
pub appended_fits : (n : ℕ) (old bs new : List ℕ) (r : Option (Unit {0})) → length old + length bs ≤ n → Appended n old bs new r → new ≡ old ++ bs
appended_fits n old bs new None few a = absurd (omega (arith, few, a.0))
appended_fits n old bs new (Some x) few a = a.1

-- levels and then values are both together
pub join_both : (p : Page) (rs ds : List ℕ) (vs : List (List ℕ)) → join (join p (slots rs ds)) (filled vs) ≡ join p (record { reps = rs; defs = ds; values = vs })
join_both p rs ds vs = λ k. record {
  reps = append-nil (p.reps ++ rs) k;
  defs = append-nil (p.defs ++ ds) k;
  values = ap (λ xs. xs ++ vs) (append-nil p.values) k;
}
