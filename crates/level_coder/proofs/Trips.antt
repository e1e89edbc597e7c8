-- What reading answers on bytes that begin with those of levels: these levels.
use Rattle.std.proofs.Common.{◌≡◌, ℕ, ◌≤◌, List, ◌++◌, length, drop, Some, None, Option, sym, refl, ap, ◌∙◌}
use Rattle.std.proofs.lemmas.List.{drop_at}
use Rattle.level_coder.specs.Coding.{Coding, Admitted, Begins, Read}

pub begins_coded : (m : Coding) (b : ℕ) (ls rest bytes : List ℕ) → Admitted b ls → bytes ≡ m.coded b ls ++ rest → Begins m b (length ls) bytes ls
begins_coded m b ls rest bytes a e =
    let r : drop (m.size (length ls) b) bytes ≡ rest = ap (drop (m.size (length ls) b)) e ∙ drop_at (m.coded b ls) rest (m.size (length ls) b) (m.sized b ls) in
    record { count = refl; admitted = a; front = e ∙ ap (λ x. m.coded b ls ++ x) (sym r) }

pub same-begun : (m : Coding) (b n : ℕ) (bytes ls ms : List ℕ) → Begins m b n bytes ls → Begins m b n bytes ms → ls ≡ ms
same-begun m b n bytes ls ms p q =
    m.unique b ls ms _ _ p.admitted.fit q.admitted.fit (q.count ∙ sym p.count) (sym p.front ∙ q.front)

-- what is read of coded levels, with anything behind them, where the list holds them
pub read_coded : (m : Coding) (b : ℕ) (ls rest bytes out out' : List ℕ) (r : Option ℕ) → Admitted b ls → bytes ≡ m.coded b ls ++ rest → length ls ≤ length out
    → Read m b (length ls) bytes out out' r → (r ≡ Some (m.size (length ls) b)) × (out' ≡ ls ++ drop (length ls) out)
read_coded m b ls rest bytes out out' None a e h no' = absurd (no'.1 h ls (begins_coded m b ls rest bytes a e))
read_coded m b ls rest bytes out out' (Some k) a e h (size, fits, (ms, begun, is)) =
    (ap Some size, is ∙ ap (λ x. x ++ drop (length ls) out) (same-begun m b (length ls) bytes ms ls begun (begins_coded m b ls rest bytes a e)))
