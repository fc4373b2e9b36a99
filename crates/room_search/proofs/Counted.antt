-- The free blocks of some groups and of one more.
use Rattle.std.proofs.Common.{◌≡◌, ℕ, ◌+◌, ◌<◌, List, ◌++◌, length, get_or, take, sym, ap, ◌∙◌}
use Rattle.std.proofs.Math.Numerals.{add-one}
use Rattle.std.proofs.lemmas.List.{length-append}
use Rattle.std.proofs.lemmas.Option.{slice_get-get_or}
use Rattle.glock_names.specs.declared.views.Group.{Group}
use Rattle.path_walks.proofs.Lists.{with_next}
use Rattle.room_search.specs.Blocks.{States, free_in, free_in_all}

pub one_group_more : (says : States) (gs : List Group) (i : ℕ) (d : Group) → i < length gs → free_in_all says (take (i + 1) gs) ≡ free_in_all says (take i gs) ++ free_in says (get_or gs i d)
one_group_more says gs i d low = ap (λ n. free_in_all says (take n gs)) (add-one i) ∙ with_next (free_in says) gs i (get_or gs i d) (slice_get-get_or gs i d low)

pub count_more : (says : States) (gs : List Group) (i : ℕ) (d : Group) (count more : ℕ) → i < length gs → count ≡ length (free_in_all says (take i gs)) → more ≡ length (free_in says (get_or gs i d))
    → count + more ≡ length (free_in_all says (take (i + 1) gs))
count_more says gs i d count more low counts is =
    ap (λ n. n + more) counts ∙ ap (λ n. length (free_in_all says (take i gs)) + n) is
    ∙ sym (length-append (free_in_all says (take i gs)) (free_in says (get_or gs i d))) ∙ sym (ap length (one_group_more says gs i d low))
