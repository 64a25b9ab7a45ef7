-- What a result was before its error was replaced by `map_err`.
use Rattle.std.proofs.Common.{◌≡◌, Option, Some, None, Result, Ok, Err, ok_or, MatchResult, refl, subst}
use Rattle.std.specs.Result.{IsErrAnd}
use Rattle.std.proofs.lemmas.Result.{err_from_is_err_and}

pub mapped_ok : {X D E : Type 0} (post : D → E → Type 0) (r : Result X D) (s : Result X E) (y : X) → MatchResult r (λ x. s ≡ Ok x) (λ d. IsErrAnd s (post d)) → s ≡ Ok y → r ≡ Ok y
mapped_ok post (Ok x) s y m e = cc
mapped_ok post (Err d) s y m e = let p = err_from_is_err_and s m in absurd (cc (p.1))

pub mapped_err : {X D E : Type 0} (post : D → E → Type 0) (r : Result X D) (s : Result X E) (y : E) → MatchResult r (λ x. s ≡ Ok x) (λ d. IsErrAnd s (post d)) → s ≡ Err y → (d : D) × (r ≡ Err d) × post d y
mapped_err post (Ok x) s y m e = absurd (cc)
mapped_err post (Err d) s y m e =
    let p = err_from_is_err_and s m in
    let same : p.0 ≡ y = cc (p.1) in
    (d, refl, subst (post d) same p.2)

-- the error that `ok_or` made
pub ok_or_err : {X E : Type 0} (o : Option X) (e d : E) → Err d ≡ ok_or o e → o ≡ None → d ≡ e
ok_or_err None e d h n = cc
ok_or_err (Some x) e d h n = absurd (cc)
