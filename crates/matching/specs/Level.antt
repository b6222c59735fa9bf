-- A Boolean whose clauses are asked one after the other: what it still needs, and what the clauses that are left make of that.
use Rattle.std.specs.Prelude.{ℕ, ◌-◌, List, Bool, true, false, ◌&&◌, ◌||◌, leb}
use Rattle.rules.specs.Query.{Kind, must, should, must_not, filter, Clauses}
use Rattle.rules.specs.Reading.{kind_of}
use Rattle.rules.specs.Lists.{Entry}
use Rattle.rules.specs.Matching.{allows, counts_for, any_needed, all_allow, shoulds_true}
use Rattle.matching.specs.declared.level.Level.{Level}

-- what a row holds where no Boolean is open
abbrev pub no_level : Level
no_level = record { end = 0; asked = 0; met = false; kind = 0 }

-- a Must, a Filter, or a Should that is true: one of them is enough where the minimum asks for none
abbrev pub meets : Kind → Bool → Bool
meets must b = true
meets should b = b
meets must_not b = false
meets filter b = true

-- after its clause
abbrev pub answered : Level → Bool → Level
answered l y = record {
  end = l.end;
  asked = l.asked - counts_for (kind_of l.kind) y;
  met = l.met || meets (kind_of l.kind) y;
  kind = l.kind;
}

-- with no clause left
abbrev pub is_over : Level → Bool
is_over l = leb l.asked 0 && l.met

-- the clauses that are left, where so many true Should clauses are still asked for
unfoldable pub carries : List Entry → ℕ → Bool → Clauses → Bool
carries es asked met cs = all_allow es cs && (leb asked (shoulds_true es cs) && (met || (any_needed cs || leb 1 (shoulds_true es cs))))

-- the Boolean at a level, once the query of its clause is true or not and cs are the clauses after it
abbrev pub after : List Entry → Level → Bool → Clauses → Bool
after es l y cs = allows (kind_of l.kind) y && carries es (answered l y).asked (answered l y).met cs
