-- Tests made in order: which of them is passed over, and what the answer tells of those that were made.
use Rattle.std.proofs.Common.{◌≡◌, Bool, true, false, cond, List, [], ◌∷◌, ◌++◌, Ok, Err, Result, refl, ap, ◌∙◌}
use Rattle.std.proofs.lemmas.Bool.{cond-false}
use Rattle.std.specs.List.{AllByRecursion}
use Rattle.refusals.specs.Refusals.{Test, tested}
use Rattle.refusals.specs.declared.fault.ChunkFault.{ChunkFault}

-- none of the tests holds
abbrev pub Passed : List Test → Type 0
Passed ts = AllByRecursion (λ t. t.holds ≡ false) ts

pub tested-append : {A : Type 0} (xs ys : List Test) (r : Result A ChunkFault) → tested (xs ++ ys) r ≡ tested xs (tested ys r)
tested-append [] ys r = refl
tested-append (t ∷ xs) ys r = ap (cond t.holds (Err t.fault)) (tested-append xs ys r)

pub tested_passed : {A : Type 0} (ts : List Test) (r : Result A ChunkFault) → Passed ts → tested ts r ≡ r
tested_passed [] r h = refl
tested_passed (t ∷ ts) r h = cond-false t.holds (Err t.fault) (tested ts r) h.0 ∙ tested_passed ts r h.1

pub passed_left : (xs ys : List Test) → Passed (xs ++ ys) → Passed xs
passed_left [] ys h = tt
passed_left (x ∷ xs) ys h = (h.0, passed_left xs ys h.1)

pub passed_right : (xs ys : List Test) → Passed (xs ++ ys) → Passed ys
passed_right [] ys h = h
passed_right (x ∷ xs) ys h = passed_right xs ys h.1

ok_past : {A : Type 0} (b : Bool) (f : ChunkFault) (q : Result A ChunkFault) (y : A) → cond b (Err f) q ≡ Ok y → (b ≡ false) × (q ≡ Ok y)
ok_past true f q y e = cc
ok_past false f q y e = (refl, e)

-- where nothing is refused, no test holds, and the answer is the one behind the tests
pub passed_from_ok : {A : Type 0} (ts : List Test) (r : Result A ChunkFault) (y : A) → tested ts r ≡ Ok y → Passed ts
passed_from_ok [] r y e = tt
passed_from_ok (t ∷ ts) r y e =
    let p = ok_past t.holds t.fault (tested ts r) y e in
    (p.0, passed_from_ok ts r y p.1)

pub ok_from_ok : {A : Type 0} (ts : List Test) (r : Result A ChunkFault) (y : A) → tested ts r ≡ Ok y → r ≡ Ok y
ok_from_ok [] r y e = e
ok_from_ok (t ∷ ts) r y e = ok_from_ok ts r y (ok_past t.holds t.fault (tested ts r) y e).1

err_past : {A B : Type 0} (b : Bool) (f e : ChunkFault) (q : Result A ChunkFault) (s : Result B ChunkFault) → cond b (Err f) q ≡ Err e → (q ≡ Err e → s ≡ Err e) → cond b (Err f) s ≡ Err e
err_past true f e q s h k = let z : f ≡ e = cc in ap Err z
err_past false f e q s h k = k h

-- a refusal where nothing behind the tests refuses is one of theirs, whatever else stands behind them
pub tested_err : {A B : Type 0} (ts : List Test) (x : A) (e : ChunkFault) (s : Result B ChunkFault) → tested ts (Ok x) ≡ Err e → tested ts s ≡ Err e
tested_err [] x e s h = cc
tested_err (t ∷ ts) x e s h = err_past t.holds t.fault e (tested ts (Ok x)) (tested ts s) h (tested_err ts x e s)

-- where nothing is refused, anything may stand behind the tests
pub tested_ok : {A B : Type 0} (ts : List Test) (x y : A) (s : Result B ChunkFault) → tested ts (Ok x) ≡ Ok y → tested ts s ≡ s
tested_ok ts x y s h = tested_passed ts s (passed_from_ok ts (Ok x) y h)

-- the same with more tests behind
pub tested_err_append : {A B : Type 0} (xs ys : List Test) (x : A) (e : ChunkFault) (s : Result B ChunkFault) → tested xs (Ok x) ≡ Err e → tested (xs ++ ys) s ≡ Err e
tested_err_append xs ys x e s h = tested-append xs ys s ∙ tested_err xs x e (tested ys s) h

pub tested_ok_append : {A B : Type 0} (xs ys : List Test) (x y : A) (s : Result B ChunkFault) → tested xs (Ok x) ≡ Ok y → tested (xs ++ ys) s ≡ tested ys s
tested_ok_append xs ys x y s h = tested-append xs ys s ∙ tested_ok xs x y (tested ys s) h
