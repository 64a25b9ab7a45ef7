-- Lists that are related place by place.
use Rattle.std.proofs.Common.{◌≡◌, ℕ, zero, suc, ◌+◌, ◌<◌, List, [], ◌∷◌, ◌++◌, map, length, get_or, drop, ℤ, sym, refl, ap, ◌∙◌, subst, add-one, arith, w64, SFits, to_z, of_z}
use Rattle.std.specs.List.{AllByRecursion}
use Rattle.std.proofs.lemmas.List.{drop_all, drop_more}
use Rattle.std.proofs.lemmas.Int.{to_z-of_z}
use Rattle.job.specs.Numbers.{Pairwise, Whole}

pub pairwise_push : {X Y : Type 0} (R : X → Y → Type 0) (xs : List X) (ys : List Y) (x : X) (y : Y) → Pairwise R xs ys → R x y → Pairwise R (xs ++ x ∷ []) (ys ++ y ∷ [])
pairwise_push R [] [] x y h r = (r, tt)
pairwise_push R [] (b ∷ ys) x y h r = absurd h
pairwise_push R (a ∷ xs) [] x y h r = absurd h
pairwise_push R (a ∷ xs) (b ∷ ys) x y h r = (h.0, pairwise_push R xs ys x y h.1 r)

-- n items from place i on, each by its place, as a pattern takes an array apart
abbrev pub places : {X : Type 0} → ℕ → ℕ → List X → X → List X
places zero i xs d = []
places (suc n) i xs d = get_or xs i d ∷ places n (suc i) xs d

places_all : {X : Type 0} (n i : ℕ) (xs : List X) (d : X) → length xs ≡ i + n → places n i xs d ≡ drop i xs
places_all zero i xs d h = sym (drop_all i xs (omega arith))
places_all (suc n) i xs d h =
    ap (λ ys. get_or xs i d ∷ ys) (places_all n (suc i) xs d (omega arith) ∙ ap (λ k. drop k xs) (sym (add-one i))) ∙ sym (drop_more xs i d (omega arith))

pub pairwise_places : {X Y : Type 0} (R : X → Y → Type 0) (xs : List X) (ys : List Y) (n : ℕ) (d : Y) → length ys ≡ n → Pairwise R xs ys → Pairwise R xs (places n 0 ys d)
pairwise_places R xs ys n d h p = subst (Pairwise R xs) (sym (places_all n 0 ys d (omega arith))) p

-- a whole number is the same after it went to its bits and back
pub pairwise_kept : (ws : List (List ℕ)) (ns : List ℤ) → Pairwise Whole ws ns → Pairwise Whole ws (map (λ n. to_z w64 (of_z w64 n)) ns)
pairwise_kept [] [] h = tt
pairwise_kept [] (n ∷ ns) h = absurd h
pairwise_kept (w ∷ ws) [] h = absurd h
pairwise_kept (w ∷ ws) (n ∷ ns) h =
    let fits : SFits w64 n = subst (SFits w64) (sym h.0.value) h.0.is_whole.fits in
    (subst (Whole w) (sym (to_z-of_z w64 n fits)) h.0, pairwise_kept ws ns h.1)

pub pairwise_length : {X Y : Type 0} (R : X → Y → Type 0) (xs : List X) (ys : List Y) → Pairwise R xs ys → length xs ≡ length ys
pairwise_length R [] [] h = refl
pairwise_length R [] (y ∷ ys) h = absurd h
pairwise_length R (x ∷ xs) [] h = absurd h
pairwise_length R (x ∷ xs) (y ∷ ys) h = ap suc (pairwise_length R xs ys h.1)

pub pairwise_all : {X Y : Type 0} (R : X → Y → Type 0) (P : X → Type 0) → ((x : X) (y : Y) → R x y → P x) → (xs : List X) (ys : List Y) → Pairwise R xs ys → AllByRecursion P xs
pairwise_all R P f [] [] h = tt
pairwise_all R P f [] (y ∷ ys) h = absurd h
pairwise_all R P f (x ∷ xs) [] h = absurd h
pairwise_all R P f (x ∷ xs) (y ∷ ys) h = (f x y h.0, pairwise_all R P f xs ys h.1)

pub pairwise_get_or : {X Y : Type 0} (R : X → Y → Type 0) (xs : List X) (ys : List Y) (i : ℕ) (d : X) (e : Y) → i < length xs → Pairwise R xs ys → R (get_or xs i d) (get_or ys i e)
pairwise_get_or R [] ys i d e inside h = absurd (omega arith)
pairwise_get_or R (x ∷ xs) [] i d e inside h = absurd h
pairwise_get_or R (x ∷ xs) (y ∷ ys) zero d e inside h = h.0
pairwise_get_or R (x ∷ xs) (y ∷ ys) (suc i) d e inside h = pairwise_get_or R xs ys i d e (omega arith) h.1
