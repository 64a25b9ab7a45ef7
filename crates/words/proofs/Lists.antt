-- The lists of words: what one turn of `words` keeps, and that a line has no other.
use Rattle.std.proofs.Common.{◌≡◌, ℕ, ◌<◌, Bool, true, false, not, List, [], ◌∷◌, ◌++◌, length, sym, refl, ap, ◌∙◌, subst, append_assoc, append-nil, arith, length-append, Bor}
use mathlib.Core.List.{map-append}
use Rattle.std.proofs.lemmas.Bool.{both_ways, true≢false, false≢true}
use Rattle.words.specs.Words.{Only, Starts, Run, FirstWord, WordsOf, texts}

only_append : (k : Bool) (front rest : List ℕ) → Only k front → Only k rest → Only k (front ++ rest)
only_append k [] rest same more = more
only_append k (b ∷ front) rest same more = (same.0, only_append k front rest same.1 more)

-- a gap before the line adds no word
after_gap : (gap line : List ℕ) (ws : List (List ℕ)) → Only true gap → WordsOf line ws → WordsOf (gap ++ line) ws
after_gap gap line [] blanks h = only_append true gap line blanks h
after_gap gap line (word ∷ ws) blanks h =
    let first = h.1 in (
      h.0,
      record {
        gap = gap ++ first.gap;
        whole = ap (λ l. gap ++ l) first.whole ∙ sym (append_assoc gap first.gap (word ++ h.0));
        blank_gap = only_append true gap first.gap blanks first.blank_gap;
        some = first.some;
        solid = first.solid;
        ends = first.ends;
      },
      h.2,
    )

run_not_empty : (line word after : List ℕ) → Run false line word after → 0 < length line → Starts false line → 0 < length word
run_not_empty line (b ∷ word) after run some begins = omega arith
run_not_empty line [] [] run some begins = absurd (omega (arith, ap length run.whole))
run_not_empty line [] (b ∷ after) run some begins = absurd (both_ways _ (subst (Starts false) run.whole begins) run.ends)

-- what is found so far, with the words of the rest, is the words of the line
pub record Sofar (line : List ℕ) (found : List (List ℕ)) (rest : List ℕ) : Type 0 where
  pub begins : Starts false rest
  pub onward : (ws : List (List ℕ)) → WordsOf rest ws → WordsOf line (found ++ ws)

onward_past_gap : (line gap rest : List ℕ) → Run true line gap rest → (ws : List (List ℕ)) → WordsOf rest ws → WordsOf line ws
onward_past_gap line gap rest skip ws h = subst (λ l. WordsOf l ws) (sym skip.whole) (after_gap gap rest ws skip.same h)

pub start : (line gap rest : List ℕ) (none : List (Bor (List ℕ))) → none ≡ [] → Run true line gap rest → Sofar line (texts none) rest
start line gap rest none e skip = rw e (record { begins = skip.ends; onward = onward_past_gap line gap rest skip })

one_more : (line rest word after gap next : List ℕ) (found : List (List ℕ)) → Sofar line found rest → 0 < length rest → Run false rest word after → Run true after gap next → Sofar line (found ++ word ∷ []) next
one_more line rest word after gap next found h some run skip = record {
  begins = skip.ends;
  onward = λ ws t.
      let first : FirstWord rest word after = record { gap = []; whole = run.whole; blank_gap = tt; some = run_not_empty rest word after run some h.begins; solid = run.same; ends = run.ends } in
      let left = onward_past_gap after gap next skip ws t in
      subst (WordsOf line) (sym (append_assoc found (word ∷ []) ws)) (h.onward (word ∷ ws) (after, first, left));
}

pub pushed : (line rest after gap next : List ℕ) (found all : List (Bor (List ℕ))) (word : Bor (List ℕ)) → all ≡ found ++ word ∷ [] → Sofar line (texts found) rest → 0 < length rest → Run false rest word.now after → Run true after gap next → Sofar line (texts all) next
pushed line rest after gap next found all word e h some run skip = subst (λ ws. Sofar line ws next) (sym (ap texts e ∙ map-append (λ t. t.now) found (word ∷ []))) (one_more line rest word.now after gap next (texts found) h some run skip)

pub shorter : (rest word after gap next : List ℕ) → Starts false rest → 0 < length rest → Run false rest word after → Run true after gap next → length next < length rest
shorter rest word after gap next begins some run skip =
    omega (arith, run_not_empty rest word after run some begins, simp length-append at (ap length run.whole), simp length-append at (ap length skip.whole))

pub done : (line rest : List ℕ) (found : List (List ℕ)) → Sofar line found rest → length rest ≡ 0 → WordsOf line found
done line [] found h e = subst (WordsOf line) (append-nil found) (h.onward [] tt)
done line (b ∷ rest) found h e = absurd (omega arith)

never : (k : Bool) → k ≡ not k → ⊥
never true = true≢false
never false = false≢true

-- a line has one longest run at its front
one_run : (k : Bool) (front after front' after' : List ℕ) → front ++ after ≡ front' ++ after' → Only k front → Only k front' → Starts (not k) after → Starts (not k) after' → (front ≡ front') × (after ≡ after')
one_run k [] after [] after' e a b c d = (refl, e)
one_run k [] after (y ∷ front') after' e a b c d = absurd (never k (sym b.0 ∙ subst (Starts (not k)) e c))
one_run k (x ∷ front) after [] after' e a b c d = absurd (never k (sym a.0 ∙ subst (Starts (not k)) (sym e) d))
one_run k (x ∷ front) after (y ∷ front') after' e a b c d =
    let head : x ≡ y = cc in
    let tail : front ++ after ≡ front' ++ after' = cc in
    let more = one_run k front after front' after' tail a.1 b.1 c d in
    (cc (head, more.0), more.1)

word_begins : (word after : List ℕ) → 0 < length word → Only false word → Starts false (word ++ after)
word_begins [] after some solid = absurd (omega arith)
word_begins (b ∷ word) after some solid = solid.0

no_word : (line word after : List ℕ) → Only true line → FirstWord line word after → ⊥
no_word line [] after blanks first = omega (arith, first.some)
no_word line (b ∷ word) after blanks first =
    let same = one_run true line [] first.gap (b ∷ word ++ after) (append-nil line ∙ first.whole) blanks first.blank_gap tt first.solid.0 in
    omega (arith, ap length same.1)

pub only_words : (line : List ℕ) (ws vs : List (List ℕ)) → WordsOf line ws → WordsOf line vs → ws ≡ vs
only_words line [] [] h t = refl
only_words line [] (v ∷ vs) h t = absurd (no_word line v t.0 h t.1)
only_words line (w ∷ ws) [] h t = absurd (no_word line w h.0 t h.1)
only_words line (w ∷ ws) (v ∷ vs) h t =
    let p = h.1 in
    let q = t.1 in
    let gaps = one_run true p.gap (w ++ h.0) q.gap (v ++ t.0) (sym p.whole ∙ q.whole) p.blank_gap q.blank_gap (word_begins w h.0 p.some p.solid) (word_begins v t.0 q.some q.solid) in
    let firsts = one_run false w h.0 v t.0 gaps.1 p.solid q.solid p.ends q.ends in
    let more = only_words h.0 ws vs h.2 (subst (λ l. WordsOf l vs) (sym firsts.1) t.2) in
    cc (firsts.0, more)
