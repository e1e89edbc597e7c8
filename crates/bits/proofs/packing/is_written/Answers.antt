use Rattle.std.proofs.Common.{◌≡◌, ℕ, ◌-◌, ◌*◌, ◌/◌, ◌%◌, ◌^◌, ◌<◌, ◌≤◌, Bool, eqb, List, length, get_or, take, drop, sym, ap, ◌∙◌, subst, mul_assoc, arith, rules, tests}
use Rattle.std.specs.Slice.Iter.{iter_rest}
use Rattle.std.proofs.ByRecursion.{All-drop, All-from_get_or}
use Rattle.std.proofs.lemmas.Iterator.{YieldsList-from_slice}
use Rattle.std.proofs.lemmas.Iterator.Search.{all_from_yields_List}
use Rattle.std.proofs.lemmas.List.{take_rest, length-drop}
use Rattle.std.proofs.lemmas.Nat.{mul-le}
use Rattle.bits.specs.Rows.{Fit, row, cut, first}
use Rattle.bits.proofs.Exact.{written, zeros_decided}
use Rattle.bits.proofs.packing.is_written.Goals as goal

-- what is read of a slice has eight bits
bytes_fit : (xs : List ℕ) → ((i : ℕ) → get_or xs i 0 < 2 ^ 8) → Fit 8 xs
bytes_fit xs h = All-from_get_or (λ x. x < 2 ^ 8) xs 0 (λ i _. h i)

-- the whole groups end within the bytes
within : (n b k : ℕ) → n * b ≤ 8 * k → n / 8 * b ≤ k
within n b k h = omega (arith, mul_assoc 8 (n / 8) b, mul-le (8 * (n / 8)) b n b (omega arith) (omega arith))

pub slice_bounds-repack-count : goal.slice_bounds-repack-count
slice_bounds-repack-count c = within c.args.n c.args.b (length c.args.bytes.now) c.requires.holds

pub slice_bounds-repack-start : goal.slice_bounds-repack-start
slice_bounds-repack-start c = within c.args.n c.args.b (length c.args.bytes.now) c.requires.holds

pub repack-requires-clause-fit : goal.repack-requires-clause-fit
repack-requires-clause-fit c =
    let from : ℕ = c.args.n / 8 * c.args.b in
    subst (Fit 8) (sym (take_rest c.args.bytes.now from))
    (All-drop (λ x. x < 2 ^ 8) from c.args.bytes.now (bytes_fit c.args.bytes.now (λ i. (c.type_inv.bytes i).fits)))

pub returns : goal.returns
returns c =
    let bytes : List ℕ = c.args.bytes.now in
    let from : ℕ = c.args.n / 8 * c.args.b in
    let group : List ℕ = c.repack.new.out in
    let test : ℕ → Bool = λ x. eqb x 0 in
    let long : length group ≡ 8 = c.repack.auto.out in
    let rest : iter_rest c.iter.result ≡ drop (c.args.n % 8) group = c.iter.ensures.rest ∙ ap (λ m. take (m - c.args.n % 8) (drop (c.args.n % 8) group)) (sym long) ∙ take_rest group (c.args.n % 8) in
    written c.args.order c.args.b c.args.n bytes group c.all.result c.requires (bytes_fit bytes (λ i. (c.type_inv.bytes i).fits))
    (c.repack.ensures c.args.b (omega arith) ∙ ap (λ x. cut c.args.order c.args.b 8 (row c.args.order 8 (first c.args.b x))) (take_rest bytes from))
    (zeros_decided (drop (c.args.n % 8) group) (8 - c.args.n % 8) c.all.result (simp length-drop (omega arith))
    (all_from_yields_List test _ _ _ c.all.ensures.ran (YieldsList-from_slice (drop (c.args.n % 8) group) rest) (λ x b q k. search (rules, tests))))
