use Rattle.driver.proofs.values.as_list.Goals as goal

pub returns-in-List : goal.returns-in-List
returns-in-List c = (c.in-List.cells, c.in-List.is, c.as_slice.ensures.value)

pub returns-in_default : goal.returns-in_default
returns-in_default c = c.in_default.not-List
