use Rattle.std.proofs.Common.{◌≡◌, ℕ, Bool, true, cond, ◌&&◌, T, pos, Some, None, sym, ap, ◌∙◌, subst}
use lib.Ieee.{Float, binary64, le, mul, in_unsigned, to_unsigned, of_int}
use Rattle.std.specs.Float.{float_round}
use Rattle.cards.specs.declared.figures.Range.{Range}
use Rattle.cards.specs.Figures.{range, within, whole, Bounded}
use Rattle.cards.proofs.Ranges.{whole_casts, whole_exact, whole_bounded}
use Rattle.cards.proofs.figures.whole.Goals as goal

-- both tests passed
inside : (c : goal.After-row_known-1) → within c.args.figure c.args.written ≡ true
inside c =
    ap (λ (r : Range). le r.least c.args.written && le c.args.written r.most) (sym c.range_of-least.ensures)
    ∙ rw (c.if-least-written.true, c.if-written-most.true)

-- what was rounded is the product of the definition
rounded : (c : goal.After-row_known-1) → c.round.result ≡ float_round binary64 (mul binary64 c.args.written (range c.args.figure).scale)
rounded c = c.round.ensures ∙ ap (λ (r : Range). float_round binary64 (mul binary64 c.args.written r.scale)) c.range_of-least.ensures

pub float_to_int-result : goal.float_to_int-result
float_to_int-result c =
    let F : Float → Type 0 = λ v. T (in_unsigned binary64 32 v) in
    subst F (sym (rounded c)) (whole_casts c.args.figure c.args.written (subst T (sym (inside c)) tt))

pub returns-then-written-most : goal.returns-then-written-most
unfolding whole
returns-then-written-most c =
    let figure = c.args.figure in
    let x = c.args.written in
    let i : T (within figure x) = subst T (sym (inside c)) tt in
    let n : to_unsigned 32 c.round.result ≡ whole figure x = ap (to_unsigned 32) (rounded c) in
    record {
      value = ap Some n ∙ ap (λ (b : Bool). cond b (Some (whole figure x)) None) (sym (inside c));
      exact = ap (λ (k : ℕ). of_int binary64 (pos k)) n ∙ whole_exact figure x i;
      bounds = subst (Bounded figure) (sym n) (whole_bounded figure x i);
    }
