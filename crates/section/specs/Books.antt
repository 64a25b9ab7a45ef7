-- The book of a section that stands.
use Rattle.std.specs.Prelude.{vec_items}
use Rattle.section.specs.Calls.{Book}
use Rattle.section.specs.declared.section.Section.{Section}

abbrev pub book_of : {K : Type 0} → Section K → Book
book_of s = record { fibres = vec_items s.row.fibres; load = s.load.force; depth = s.load.depth }
