use Rattle.std.proofs.Common.{ℕ, ◌≡◌, ◌+◌, ◌*◌, List, [], ◌∷◌, ◌++◌, replicate, length, length-append, append-nil, ap, sym, ◌∙◌, arith, rules}
use Rattle.std.specs.List.{range_with_len, flat_map}
use Rattle.std.proofs.lemmas.Grind.{flat_map-append}
use Rattle.gfs2_layout.specs.Writing.{rindex_put}
use Rattle.mkgfs2_tool.specs.Blocks.{entries_of, group_entries, group_entry}
use Rattle.mkgfs2_tool.specs.declared.plan.Plan.{Plan}
use Rattle.mkgfs2_tool.proofs.PointerLaws.{range_more}
use Rattle.mkgfs2_tool.proofs.making.group_list.Goals as goal

one_more : (p : Plan) (n : ℕ) (before entry : List ℕ) → before ≡ entries_of p n → entry ≡ rindex_put (group_entry p n) (replicate 96 0) → before ++ entry ≡ entries_of p (n + 1)
one_more p n before entry are is =
    let put : ℕ → List ℕ = λ group. rindex_put (group_entry p group) (replicate 96 0) in
    let range : range_with_len 0 (n + 1) ≡ range_with_len 0 n ++ n ∷ [] = range_more 0 n ∙ ap (λ k. range_with_len 0 n ++ k ∷ []) (let same : 0 + n ≡ n = omega arith in same) in
    ap (λ b. b ++ entry) are ∙ ap (λ e. entries_of p n ++ e) is ∙ sym (ap (flat_map put) range ∙ flat_map-append put (range_with_len 0 n) (n ∷ []) ∙ ap (λ e. entries_of p n ++ e) (append-nil (put n)))

pub loop-group-preserved : goal.loop-group-preserved
loop-group-preserved c =
    let added = c.in_ok-extend_from_slice.ensures.items in
    let long : length c.entry_bytes.result ≡ 96 = search rules in
    record {
      are = added ∙ one_more c.args.plan.now c.loop-group.group c.loop-group.entries.items c.entry_bytes.result c.loop-group.invariant.are c.entry_bytes.ensures;
      long = ap length added ∙ length-append c.loop-group.entries.items c.entry_bytes.result ∙ (let before = c.loop-group.invariant.long in omega (arith, before, long));
    }

pub returns : goal.returns
unfolding group_entries
returns c = let all : c.loop-group.group ≡ c.args.plan.now.groups = grind arith in
    record { are = c.loop-group.invariant.are ∙ ap (entries_of c.args.plan.now) all; long = c.loop-group.invariant.long ∙ ap (λ n. 96 * n) all }
