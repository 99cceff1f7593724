-- The places after a place of a form, in their order (`later`, `later_is`), and the place that post ends (`post_takes`).
-- By cases over the places. Assumes nothing.
use Rattle.std.specs.Prelude.{◌≡◌, refl, List, [], ◌∷◌, Bool, true}
use Rattle.std.proofs.Math.Option.{none, some}
use Rattle.grammar.specs.Sorts.{statement, only}
use Rattle.grammar.specs.Forms.{Place, in_group, in_mark, when_first, when_second, when_third, if_guard, if_then, if_else, while_guard, while_keep, while_fall, while_body, script_pre, script_body, script_post, next_place, place_takes}
use Rattle.grammar.specs.Tokens.{by_closer, post_closer, same_ending, ending}
use Rattle.grammar.specs.Tests.{false_is_not}

-- ---- the places after a place

abbrev pub later : Place → List Place
later in_group = []
later in_mark = []
later when_first = when_second ∷ when_third ∷ []
later when_second = when_third ∷ []
later when_third = []
later if_guard = if_then ∷ if_else ∷ []
later if_then = if_else ∷ []
later if_else = []
later while_guard = while_keep ∷ while_fall ∷ while_body ∷ []
later while_keep = while_fall ∷ while_body ∷ []
later while_fall = while_body ∷ []
later while_body = []
later script_pre = script_body ∷ script_post ∷ []
later script_body = script_post ∷ []
later script_post = []

abbrev pub Later : Place → List Place → Type 0
Later p [] = next_place p ≡ none
Later p (q ∷ qs) = (next_place p ≡ some q) × (later q ≡ qs)

pub later_is : (p : Place) → Later p (later p)
later_is in_group = refl
later_is in_mark = refl
later_is when_first = (refl, refl)
later_is when_second = (refl, refl)
later_is when_third = refl
later_is if_guard = (refl, refl)
later_is if_then = (refl, refl)
later_is if_else = refl
later_is while_guard = (refl, refl)
later_is while_keep = (refl, refl)
later_is while_fall = (refl, refl)
later_is while_body = refl
later_is script_pre = (refl, refl)
later_is script_body = (refl, refl)
later_is script_post = refl

-- ---- the place that post ends

abbrev pub ends_by_post : Place → Bool
ends_by_post p = same_ending (by_closer post_closer) (ending p)

pub post_takes : (p : Place) → ends_by_post p ≡ true → place_takes p ≡ only statement
post_takes in_group e = false_is_not e
post_takes in_mark e = false_is_not e
post_takes when_first e = false_is_not e
post_takes when_second e = false_is_not e
post_takes when_third e = false_is_not e
post_takes if_guard e = false_is_not e
post_takes if_then e = false_is_not e
post_takes if_else e = false_is_not e
post_takes while_guard e = false_is_not e
post_takes while_keep e = false_is_not e
post_takes while_fall e = false_is_not e
post_takes while_body e = false_is_not e
post_takes script_pre e = false_is_not e
post_takes script_body e = refl
post_takes script_post e = false_is_not e
