-- A loop that reads words as numbers, one after the other.
use Rattle.std.proofs.Common.{◌≡◌, ℕ, zero, suc, ◌+◌, ◌<◌, ◌≤◌, List, [], ◌∷◌, ◌++◌, length, get_or, take, sym, ap, ◌∙◌, subst, Bor, add-one, arith}
use lib.ListN.{length-map}
use Rattle.std.specs.List.{AllByRecursion}
use Rattle.std.proofs.lemmas.List.{get_or-map, take_more, take_all}
use Rattle.words.specs.Words.{texts}
use Rattle.refusal.specs.First.{FirstOut}
use Rattle.refusal.proofs.First.{first_out_at}
use Rattle.job.specs.Numbers.{Pairwise}
use Rattle.job.proofs.Pairs.{pairwise_push, pairwise_length}

all_more : {X : Type 0} (P : X → Type 0) (xs : List X) (i : ℕ) (d : X) → i < length xs → AllByRecursion P (take i xs) → P (get_or xs i d) → AllByRecursion P (take (suc i) xs)
all_more P [] i d h all p = absurd (omega arith)
all_more P (x ∷ xs) zero d h all p = (p, tt)
all_more P (x ∷ xs) (suc i) d h all p = (all.0, all_more P xs i d (omega arith) all.1 p)

-- the first n words are the numbers xs
pub record ReadSofar {X : Type 0} (form : List ℕ → Type 0) (value : List ℕ → X → Type 0) (ws : List (Bor (List ℕ))) (n : ℕ) (xs : List X) : Type 0 where
  pub forms : AllByRecursion form (take n (texts ws))
  pub values : Pairwise value (take n (texts ws)) xs

module _ {X : Type 0} {form : List ℕ → Type 0} {value : List ℕ → X → Type 0} {ws : List (Bor (List ℕ))} {n : ℕ} {xs : List X} (h : ReadSofar form value ws n xs) where
  held : (d : Bor (List ℕ)) → n < length ws → get_or (texts ws) n [] ≡ (get_or ws n d).now
  held d inside = get_or-map (λ t. t.now) ws n d [] inside

  within : n < length ws → n < length (texts ws)
  within inside = simp length-map inside

  pub one_more : (d : Bor (List ℕ)) (x : X) → n < length ws → form (get_or ws n d).now → value (get_or ws n d).now x → ReadSofar form value ws (n + 1) (xs ++ x ∷ [])
  one_more d x inside f v = record {
    forms = rw add-one (all_more _ (texts ws) n [] (within inside) h.forms (subst form (sym (held d inside)) f));
    values =
        rw (take_more (texts ws) n [] (within inside)) (pairwise_push value _ xs _ x h.values (subst (λ w. value w x) (sym (held d inside)) v));
  }

  pub none_here : (d : Bor (List ℕ)) → n < length ws → (form (get_or ws n d).now → ⊥) → FirstOut form (texts ws) n
  none_here d inside f = first_out_at form (texts ws) n [] (within inside) h.forms (λ g. f (subst form (held d inside) g))

  pub as_many : length ws ≤ n → length xs ≡ length ws
  as_many end =
      let all : take n (texts ws) ≡ texts ws = take_all n (texts ws) (simp length-map end) in
      sym (pairwise_length value _ xs h.values) ∙ ap length all ∙ length-map _ _
