use Rattle.std.proofs.Common.{◌≡◌, ℕ, zero, suc, ◌+◌, ◌/◌, ◌%◌, ◌≤◌, List, [], ◌∷◌, map, length, get_or, take, drop, ℤ, pos, vec_items, rules, refl, arith, w64, to_z, of_z, ◌∙◌, ap}
use Rattle.std.specs.Simd.{first_chunks}
use Rattle.std.proofs.lemmas.Iterator.{YieldsList-from_slice, YieldsList-from_map, items_from_collect}
use Rattle.std.proofs.lemmas.Iterator.Consumers.{YieldsList-at}
use Rattle.std.proofs.lemmas.Result.{IfOk-at_ok}
use Rattle.laws.specs.declared.point.Point.{Point}
use Rattle.job.specs.Commands.{written_points}
use Rattle.job.specs.Numbers.{Pairwise, Whole}
use Rattle.job.proofs.Pairs.{pairwise_kept}
use Rattle.job.proofs.read.points_line.Goals as goal

abbrev kept : ℤ → ℤ
kept n = to_z w64 (of_z w64 n)

abbrev point_of : List ℤ → Point
point_of pair = record { strain = kept (get_or pair 0 (pos 0)); stress = kept (get_or pair 1 (pos 0)) }

-- k pairs are k points
paired : (k : ℕ) (ns : List ℤ) → length ns ≡ k + k → written_points (map point_of (first_chunks 2 k ns)) ≡ map kept ns
paired zero [] long = refl
paired zero (n ∷ ns) long = absurd (omega arith)
paired (suc k) [] long = absurd (omega arith)
paired (suc k) (m ∷ []) long = absurd (omega arith)
paired (suc k) (m ∷ n ∷ ns) long = ap (λ ms. kept m ∷ kept n ∷ ms) (paired k ns (omega arith))

-- the first two numbers, and then the points
points_read : (ts : List (List ℕ)) (ns limits rest : List ℤ) (ps : List Point) → Pairwise Whole ts ns → 2 ≤ length ns → length ns % 2 ≡ 0 → limits ≡ take 2 ns → rest ≡ drop 2 ns → ps ≡ map point_of (first_chunks 2 (length rest / 2) rest) → Pairwise Whole ts (kept (get_or limits 0 (pos 0)) ∷ kept (get_or limits 1 (pos 0)) ∷ written_points ps)
points_read ts [] limits rest ps h long even l r p = absurd (omega arith)
points_read ts (m ∷ []) limits rest ps h long even l r p = absurd (omega arith)
points_read ts (m ∷ n ∷ ns) limits rest ps h long even l r p = rw (p, r, l, paired (length ns / 2) ns (omega arith)) (pairwise_kept ts (m ∷ n ∷ ns) h)

pub returns : goal.returns
returns c =
    let chain = items_from_collect _ c.collect.ensures.ran (YieldsList-from_map _ point_of (YieldsList-at c.map.ensures.source (YieldsList-from_slice _ c.iter.ensures.rest)) c.map.ensures.closure (λ x r q k. search rules)) in
    let points = IfOk-at_ok _ c.in_ok-points.was chain ∙ ap (map point_of) c.as_chunks.ensures.front in
    let limits = c.split_at.ensures.front ∙ ap (take 2) c.deref.ensures.value in
    let rest = c.split_at.ensures.back ∙ ap (drop 2) c.deref.ensures.value in
    let long : length (vec_items c.in_ok-numbers.numbers) ≡ length c.args.words.now = c.in_ok-numbers.ensures.many in
    record { real_part = tt; whole_part = points_read _ (vec_items c.in_ok-numbers.numbers) _ _ _ c.in_ok-numbers.ensures.read.1 (omega arith) (omega arith) limits rest points }
