-- Counts over a list that grows at its end.
use Rattle.std.proofs.Common.{ℕ, ◌≡◌, ◌+◌, [], ◌∷◌, ◌++◌, map, ap, ◌∙◌, arith}
use Rattle.std.specs.Prelude.{count_by, if◌then◌else◌}
use Rattle.std.proofs.lemmas.List.{map-append}
use Rattle.std.proofs.lemmas.List.Sums.{sum_by-append}
use Rattle.std.specs.List.{range_with_len}
use Rattle.mkgfs2_tool.specs.Groups.{data_before, data_blocks}
use Rattle.mkgfs2_tool.specs.Order.{master_place, root_place, group_list_place, journals_place, journal_place}
use Rattle.mkgfs2_tool.specs.Blocks.{is_within}
use Rattle.mkgfs2_tool.specs.declared.plan.Plan.{Plan}
use Rattle.mkgfs2_tool.proofs.PointerLaws.{range_more}

-- how many of the four first dinodes, and of those of the first journals, are in a group
abbrev pub dinodes_among : Plan → ℕ → ℕ → ℕ
dinodes_among p group journals =
    count_by (is_within (data_before p group) (data_blocks p group)) (master_place ∷ root_place ∷ group_list_place ∷ journals_place p ∷ map (journal_place p) (range_with_len 0 journals))

abbrev pub is_one_in : Plan → ℕ → ℕ → ℕ
is_one_in p group place = count_by (is_within (data_before p group) (data_blocks p group)) (place ∷ [])

pub one_more_journal : (p : Plan) (group n : ℕ) → dinodes_among p group (n + 1) ≡ dinodes_among p group n + is_one_in p group (journal_place p n)
one_more_journal p group n =
    let f = is_within (data_before p group) (data_blocks p group) in
    let more : map (journal_place p) (range_with_len 0 (n + 1)) ≡ map (journal_place p) (range_with_len 0 n) ++ journal_place p n ∷ [] =
    ap (map (journal_place p)) (range_more 0 n) ∙ map-append (journal_place p) (range_with_len 0 n) ((0 + n) ∷ []) ∙ ap (λ k. map (journal_place p) (range_with_len 0 n) ++ journal_place p k ∷ []) (let same : 0 + n ≡ n = omega arith in same) in
    ap (λ places. count_by f (master_place ∷ root_place ∷ group_list_place ∷ journals_place p ∷ places)) more
    ∙ sum_by-append (λ k. if f k then 1 else 0) (master_place ∷ root_place ∷ group_list_place ∷ journals_place p ∷ map (journal_place p) (range_with_len 0 n)) (journal_place p n ∷ [])
