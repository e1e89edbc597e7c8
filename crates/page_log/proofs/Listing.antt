-- The entries of pages, one by one: entry k is that of page k, and a page behind the others adds its entry.
use Rattle.std.proofs.Common.{◌≡◌, ℕ, zero, suc, ◌+◌, ◌<◌, List, [], ◌∷◌, ◌++◌, length, get_or, take, Some, refl, ap, ◌∙◌, arith}
use Rattle.std.specs.List.{slice_get}
use Rattle.ledger.specs.Context.{Context}
use Rattle.ledger.specs.Entries.{entry, entry_list, first_row}
use Rattle.ledger.specs.Pages.{Page, blank, joined, rows}
use Rattle.ledger.proofs.Joining.{rows_join}

pub length-entry_list : (x : Context) (r : ℕ) (os : List ℕ) (ps : List Page) → length os ≡ length ps → length (entry_list x r os ps) ≡ length ps
length-entry_list x r [] ps e = e
length-entry_list x r (o ∷ os) [] e = refl
length-entry_list x r (o ∷ os) (p ∷ ps) e = omega (arith, length-entry_list x (r + rows p) os ps (omega (arith, e)))

pub entry_list_push : (x : Context) (r : ℕ) (os : List ℕ) (ps : List Page) (o : ℕ) (p : Page) → length os ≡ length ps
    → entry_list x r (os ++ (o ∷ [])) (ps ++ (p ∷ [])) ≡ entry_list x r os ps ++ (entry x o (r + rows (joined ps)) p ∷ [])
entry_list_push x r [] [] o p e = ap (λ n. entry x o n p ∷ []) (omega arith)
entry_list_push x r [] (q ∷ ps) o p e = absurd (omega (arith, e))
entry_list_push x r (u ∷ os) [] o p e = absurd (omega (arith, e))
entry_list_push x r (u ∷ os) (q ∷ ps) o p e =
    ap (λ es. entry x u r q ∷ es) (entry_list_push x (r + rows q) os ps o p (omega (arith, e)))
    ∙ ap (λ n. entry x u r q ∷ (entry_list x (r + rows q) os ps ++ (entry x o n p ∷ []))) (omega (arith, rows_join q (joined ps)))

-- entry k begins with the row behind those of the pages before it
pub entry_at : (x : Context) (r : ℕ) (os : List ℕ) (ps : List Page) (k : ℕ) → length os ≡ length ps → k < length ps
    → slice_get (entry_list x r os ps) k ≡ Some (entry x (get_or os k 0) (r + first_row ps k) (get_or ps k blank))
entry_at x r os [] k e h = absurd (omega arith)
entry_at x r [] (p ∷ ps) k e h = absurd (omega (arith, e))
entry_at x r (o ∷ os) (p ∷ ps) zero e h = ap (λ n. Some (entry x o n p)) (omega arith)
entry_at x r (o ∷ os) (p ∷ ps) (suc k) e h =
    entry_at x (r + rows p) os ps k (omega (arith, e)) (omega arith)
    ∙ ap (λ n. Some (entry x (get_or os k 0) n (get_or ps k blank))) (omega (arith, rows_join p (joined (take k ps))))
