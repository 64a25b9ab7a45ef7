use Rattle.std.proofs.Common.{◌≡◌, ◌∷◌, IsUtf8, sym, refl, ap, subst}
use lib.Utf8.{encode}
use Rattle.std.proofs.lemmas.Option.{MatchOption-at_some, MatchOption-at_none}
use Rattle.std.proofs.lemmas.Result.{err_from_is_err_and}
use Rattle.words.specs.Words.{texts}
use Rattle.job.specs.declared.command.Name.{Name}
use Rattle.job.specs.declared.command.Name.TheVariants.{Uhpc, Deck, Steel, Points, Stress, Reach}
use Rattle.job.specs.Forms.{spelling}
use Rattle.job.proofs.Errors.{ok_or_err}
use Rattle.job.proofs.read.read.Goals as goal

spelling_is_text : (n : Name) → IsUtf8 (spelling n)
unfolding encode
spelling_is_text Uhpc = (spelling Uhpc, (refl, refl))
spelling_is_text Deck = (spelling Deck, (refl, refl))
spelling_is_text Steel = (spelling Steel, (refl, refl))
spelling_is_text Points = (spelling Points, (refl, refl))
spelling_is_text Stress = (spelling Stress, (refl, refl))
spelling_is_text Reach = (spelling Reach, (refl, refl))

pub returns-in_err-name-clause-cases : goal.returns-in_err-name-clause-cases
returns-in_err-name-clause-cases c =
    let cut : texts c.args.words.now ≡ c.in_ok-word.word.now.now ∷ texts c.in_ok-word.rest.now = ap texts (MatchOption-at_some _ _ _ c.in_ok-word.ensures.ok_part c.split_first.ensures.cases).0 in
    let none = MatchOption-at_none _ _ c.in_err-name.ensures.ok_part c.parsed.ensures in
    let same = ok_or_err c.parsed.result _ _ c.in_err-name.ensures.value c.in_err-name.ensures.ok_part in
    let p = err_from_is_err_and c.from_residual-in_err-name.result c.from_residual-in_err-name.ensures.1 in
    rw (p.1, p.2, same, cut) (λ n e. (none (subst IsUtf8 (sym e) (spelling_is_text n))).1.1 n e)
