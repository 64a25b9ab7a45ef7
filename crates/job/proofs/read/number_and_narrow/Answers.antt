use Rattle.std.proofs.Common.{◌≡◌, ℕ, ◌<◌, List, [], ◌∷◌, length, get_or, take, drop, ℤ, pos, sym, refl, ◌∙◌, subst, arith, w32, w64, SFits, to_z, of_z, rules}
use Rattle.std.proofs.lemmas.Int.{to_z-of_z}
use Rattle.std.proofs.lemmas.Result.{OkIff-at_ok, OkIff-at_err, err_from_is_err_and}
use Rattle.std.specs.List.{AllByRecursion}
use Rattle.words.specs.Words.{texts}
use Rattle.job.specs.declared.fault.Fault.TheVariants.{NotNarrow}
use Rattle.job.specs.Numbers.{IsReal, IsWhole, Whole, Pairwise}
use Rattle.job.proofs.Errors.{mapped_ok, mapped_err}
use Rattle.job.proofs.Pairs.{places, pairwise_places, pairwise_kept, pairwise_length, pairwise_all, pairwise_get_or}
use Rattle.job.proofs.read.number_and_narrow.Goals as goal

pub returns-in_err-narrow : goal.returns-in_err-narrow
returns-in_err-narrow c =
    let ts : List (List ℕ) = texts c.args.words.now in
    let numbers = c.in_ok-number.field-0-1 in
    let numbers_long : length numbers ≡ 2 = search rules in
    let none = c.requires.0.reals_are in
    let read : Pairwise Whole ts numbers = subst (λ n. Pairwise Whole (drop n ts) numbers) (sym none) c.in_ok-number.ensures.1 in
    let long : length ts ≡ 2 = pairwise_length Whole ts numbers read ∙ numbers_long in
    let inside : 1 < length ts = omega arith in
    let second : Whole (get_or ts 1 []) (get_or numbers 1 (pos 0)) = pairwise_get_or Whole ts numbers 1 [] (pos 0) inside read in
    let fits : SFits w64 (get_or numbers 1 (pos 0)) = subst (SFits w64) (sym second.value) second.is_whole.fits in
    let back = to_z-of_z w64 (get_or numbers 1 (pos 0)) fits ∙ second.value in
    let wide = mapped_err _ c.try_from.result c.map_err.result c.in_err-narrow.field-0.0 c.map_err.ensures.cases c.in_err-narrow.was in
    let same : c.in_err-narrow.field-0.0 ≡ NotNarrow 1 = search rules in
    let p = err_from_is_err_and c.from_residual-in_err-narrow.result c.from_residual-in_err-narrow.ensures.1 in
    rw (p.1, p.2, same) (
      c.requires.0.given _ long,
      subst (λ n. AllByRecursion IsReal (take n ts)) none tt,
      subst (λ n. AllByRecursion IsWhole (drop n ts)) none (pairwise_all Whole IsWhole (λ w n h. h.is_whole) ts numbers read),
      c.requires.1,
      refl,
      λ h. OkIff-at_err _ _ _ wide.0 c.try_from.ensures wide.1 (subst (SFits w32) (sym back) h),
    )

pub returns : goal.returns
returns c =
    let ts : List (List ℕ) = texts c.args.words.now in
    let numbers = c.in_ok-number.field-0-1 in
    let long : length numbers ≡ 2 = search rules in
    let all : Pairwise Whole ts numbers = subst (λ n. Pairwise Whole (drop n ts) numbers) (sym c.requires.0.reals_are) c.in_ok-number.ensures.1 in
    let read = pairwise_kept ts (places 2 0 numbers (pos 0)) (pairwise_places Whole ts numbers 2 (pos 0) long all) in
    let came = OkIff-at_ok c.try_from.result _ _ c.in_ok-narrow.narrow c.try_from.ensures (mapped_ok _ c.try_from.result c.map_err.result c.in_ok-narrow.narrow c.map_err.ensures.cases c.in_ok-narrow.was) in
    let fits : SFits w32 c.in_ok-narrow.narrow = subst (SFits w32) (sym came.1) came.0 in
    let F : ℤ → Type 0 = λ z. Pairwise Whole ts (to_z w64 (of_z w64 (get_or numbers 0 (pos 0))) ∷ z ∷ []) in
    subst F (sym (to_z-of_z w32 c.in_ok-narrow.narrow fits ∙ came.1)) read
