-- Where a run of blanks, or of bytes that are none, ends.
use Rattle.std.proofs.Common.{◌≡◌, ℕ, zero, suc, ◌<◌, ◌≤◌, Bool, not, List, [], ◌∷◌, length, take, drop, Some, None, Option, MatchOption, sym, arith, take-append-drop}
use Rattle.std.specs.List.{AllWithin, HoldsAt}
use Rattle.std.specs.Option.{unwrap_or}
use Rattle.words.specs.Words.{blank, Only, Starts, Run}

-- the place of the first byte that ends the run at the front, or that none ends it
abbrev pub Ends : Bool → List ℕ → Option ℕ → Type 0
Ends k line end = MatchOption end (AllWithin (λ b. blank b ≡ k) line 0 (length line)) (λ n. (n < length line) × HoldsAt (λ b. blank b ≡ not k) line n × AllWithin (λ b. blank b ≡ k) line 0 n)

only_front : (k : Bool) (line : List ℕ) (n : ℕ) → n ≤ length line → AllWithin (λ b. blank b ≡ k) line 0 n → Only k (take n line)
only_front k line zero within same = tt
only_front k [] (suc n) within same = absurd (omega arith)
only_front k (b ∷ line) (suc n) within same =
    (same 0 b (omega arith) (omega arith), only_front k line n (omega arith) (λ i d low high. same (suc i) d (omega arith) (omega arith)))

starts_at : (k : Bool) (line : List ℕ) (n : ℕ) → n < length line → HoldsAt (λ b. blank b ≡ k) line n → Starts k (drop n line)
starts_at k [] n inside here = absurd (omega arith)
starts_at k (b ∷ line) zero inside here = here b
starts_at k (b ∷ line) (suc n) inside here = starts_at k line n (omega arith) here

starts_past : (k : Bool) (line : List ℕ) (n : ℕ) → length line ≤ n → Starts k (drop n line)
starts_past k [] zero past = tt
starts_past k [] (suc n) past = tt
starts_past k (b ∷ line) zero past = absurd (omega arith)
starts_past k (b ∷ line) (suc n) past = starts_past k line n (omega arith)

run_to : (k : Bool) (line : List ℕ) (end : Option ℕ) → Ends k line end → Run k line (take (unwrap_or end (length line)) line) (drop (unwrap_or end (length line)) line)
run_to k line None same = record {
  whole = sym (take-append-drop (length line) line);
  same = only_front k line (length line) (omega arith) same;
  ends = starts_past (not k) line (length line) (omega arith);
}
run_to k line (Some n) h = record {
  whole = sym (take-append-drop n line);
  same = only_front k line n (omega (arith, h.0)) h.2;
  ends = starts_at (not k) line n h.0 h.1;
}

-- the run that is cut off where the first byte ends it
pub run_cut : (k : Bool) (line front after : List ℕ) (end : Option ℕ) (n : ℕ) → Ends k line end → n ≡ unwrap_or end (length line) → front ≡ take n line → after ≡ drop n line → Run k line front after
run_cut k line front after end n ends at f a = rw (f, a, at) (run_to k line end ends)
