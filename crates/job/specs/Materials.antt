-- What a material of a job means.
use Rattle.std.specs.Prelude.{vec_items}
use Rattle.laws.specs.Meaning.{Meaning, Lawful}
use Rattle.laws.specs.Points.{point_law}
use Rattle.laws.specs.PointsLawful.{points_lawful}
use Rattle.laws.proofs.TwoLine.{two_line_lawful}
use Rattle.cards.specs.Lines.{lines, meaning_of}
use Rattle.job.specs.declared.material.Material.{Material}
use Rattle.job.specs.declared.material.Material.TheVariants.{Card, Points}

abbrev pub material_law : Material → Meaning
material_law (Card law) = meaning_of (lines law)
material_law (Points law) = point_law (vec_items law.points) law.limits

pub material_lawful : (m : Material) → Lawful (material_law m)
material_lawful (Card law) =
    two_line_lawful law.modulus law.plateaus.compression law.plateaus.tension law.limits.compression law.limits.tension law.compression_in law.tension_in law.shortest_in law.longest_in
material_lawful (Points law) = points_lawful (vec_items law.points) law.limits law.points_sound law.shortest_in law.longest_in
