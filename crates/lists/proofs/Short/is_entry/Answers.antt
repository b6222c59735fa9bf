use Rattle.lists.proofs.Lister as lister
use Rattle.lists.proofs.Short.is_entry.Goals as goal

pub returns-in-65 : goal.returns-in-65
returns-in-65 c = λ z. lister.holds_place c.in-65.is (c.is_place.ensures z)

pub returns-in-68 : goal.returns-in-68
returns-in-68 c = λ z. lister.holds_whole c.in-68.is (c.is_number.ensures z)

pub returns-in-69 : goal.returns-in-69
returns-in-69 c = λ z. lister.holds_float c.in-69.is (c.is_number-in-69.ensures z)
