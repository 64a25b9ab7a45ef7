use Rattle.laws.proofs.Interpolation.{start, held_product_fits, held_run_some, held_quotient_fits, held_sum_fits, held_sum_is}
use Rattle.laws.proofs.point_law.law.interpolate.Goals as goal

pub overflow_mul-result : goal.overflow_mul-result
overflow_mul-result c = held_product_fits (start c.requires)

pub nonzero_div-result : goal.nonzero_div-result
nonzero_div-result c = (held_run_some (start c.requires), held_quotient_fits (start c.requires))

pub overflow_add-result : goal.overflow_add-result
overflow_add-result c = held_sum_fits (start c.requires)

pub returns : goal.returns
returns c = held_sum_is (start c.requires)
