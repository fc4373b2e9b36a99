use Rattle.growth_laws.proofs.Places.{places_are_parts, parts_have_places, content_is_level_zero, top_places_are_the_pointers, places_follow_pointers}
use Rattle.growth_laws.proofs.laws.places_are_parts.Goals as goal

pub returns-clause-parts : goal.returns-clause-parts
returns-clause-parts c = places_are_parts

pub returns-clause-places : goal.returns-clause-places
returns-clause-places c = parts_have_places

pub returns-clause-content : goal.returns-clause-content
returns-clause-content c = content_is_level_zero

pub returns-clause-top : goal.returns-clause-top
returns-clause-top c = top_places_are_the_pointers

pub returns-clause-lower : goal.returns-clause-lower
returns-clause-lower c = places_follow_pointers
