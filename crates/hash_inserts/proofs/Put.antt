-- A directory after a record was put into a leaf of it, and counted.
use Rattle.std.proofs.Common.{◌≡◌, ◌≢◌, ℕ, ◌+◌, inl, inr, true, List, [], ◌∷◌, length, Some, refl, sym, ap, ◌∙◌, subst, false, arith}
use Rattle.std.specs.Prelude.{IsSome}
use Rattle.std.proofs.lemmas.Bool.{cases_eq}
use Rattle.std.specs.FinMap.{FinMap, insert}
use Rattle.std.specs.Ordering.{nat_cmp}
use Rattle.drafts.specs.Fates.{Drafted, seen_in}
use Rattle.drafts.specs.declared.fate.Fate.{Fate}
use Rattle.drafts.specs.declared.fate.Fate.TheVariants.{Put}
use Rattle.gfs2_layout.specs.Exchanges.{directory_count}
use Rattle.gfs2_layout.specs.Holding.{Holding, Part, Itself, InChain, part_at, bytes_at}
use Rattle.gfs2_layout.specs.Inode.{block_count, dinode_in, first_hash, is_hashed_in}
use Rattle.gfs2_layout.specs.declared.dinode.Dinode.{Dinode}
use Rattle.glock_names.specs.Views.{Seen}
use Rattle.glock_names.specs.declared.steps.Entry.{Entry}
use Rattle.dinode_tree.specs.Reading.{inode_lock}
use Rattle.linear_dirs.specs.Exchanges.{uncounted}
use Rattle.linear_dirs.specs.Shown.{head_for, record_for}
use Rattle.linear_dirs.proofs.Counts.{counts_more}
use Rattle.hash_steps.specs.Shown.{IsInChain, IsShown, IsSound, index_for}
use Rattle.hash_steps.proofs.Chained.{cell_some, in_chain, some_block}
use Rattle.hash_steps.specs.Leaves.{IsFullBefore}
use Rattle.hash_steps.specs.Steps.{IsPutInLeaf}
use Rattle.hash_steps.proofs.Leaves.{itself_or_chained}
use Rattle.hash_steps.proofs.Sound.{tree_of}
use Rattle.hash_inserts.specs.Drafting.{Puts, PutsInLeaf, with_block}
use Rattle.hash_inserts.specs.Writing.{IsDinodeWritten, IsLeafFilled, counting}
use Rattle.hash_inserts.proofs.Blocks.{bytes_apart, bytes_here, counts_same, fate_apart, one_put, part_apart, part_here, puts_then, some_before, some_still}
use Rattle.hash_inserts.proofs.LeafBytes.{leaf_put_of}
use Rattle.hash_inserts.proofs.Settled.{behind_now, dinode_now, pads_now, placed_now, sound_now}
use Rattle.hash_inserts.proofs.Trees.{IsWhole, KeepsTree, in_tree, leaf_keeps, whole_of, whole_with}

module _ (v : Seen) (fates : FinMap nat_cmp Fate) (h : Holding) (name : List ℕ) (e : Entry) (place x links : ℕ) (new dinode : List ℕ) (sound : IsSound h) (hashed : is_hashed_in h ≡ true)
    (chain : IsInChain h (index_for h name) place x) (full : IsFullBefore h (index_for h name) (length name) place) (filled : IsLeafFilled (bytes_at h x) new (head_for name e) name)
    (written : IsDinodeWritten (bytes_at h h.own) dinode (counting (dinode_in h) 1 links 0)) (links_are : links ≡ directory_count (record_for name e ∷ [])) where
  abbrev pub part : Part
  part = InChain (first_hash h (index_for h name)) place

  part_x : part_at h x ≡ Some part
  part_x = in_chain h sound hashed (index_for h name) place x chain

  apart : x ≢ h.own
  apart is = itself_or_chained (first_hash h (index_for h name)) place (sym sound.placed.own ∙ ap (part_at h) (sym is) ∙ part_x)

  own_apart : h.own ≢ x
  own_apart is = apart (sym is)

  some_x : IsSome (h.cell x)
  some_x = cell_some (h.cell x) part part_x

  abbrev pub m : Holding
  m = with_block h x part new

  keeps_m : KeepsTree h m.cell
  keeps_m = leaf_keeps h x part new (ap in_tree part_x) refl apart

  whole_m : IsWhole m
  whole_m = whole_with h x part new (whole_of h (tree_of h sound.inode) sound.placed) (filled.written.long ∙ sound.inode.whole x part part_x) (some_block h sound hashed x part part_x) (sound.placed.inside x some_x) (λ is. absurd (apart is))

  same_m : bytes_at m h.own ≡ bytes_at h h.own
  same_m = bytes_apart h x part new h.own own_apart

  counts_m : block_count m ≡ block_count h + 0
  counts_m = counts_same h x part new some_x ∙ zero_more (block_count h)
    where
      zero_more : (n : ℕ) → n ≡ n + 0
      zero_more n = omega arith

  abbrev pub after : Holding
  after = with_block m h.own Itself dinode

  after_x : bytes_at after x ≡ new
  after_x = bytes_apart m h.own Itself dinode x apart ∙ bytes_here h x part new

  some_own : IsSome (h.cell h.own)
  some_own = cell_some (h.cell h.own) Itself sound.placed.own

  parts : (y : ℕ) → part_at after y ≡ part_at h y
  parts y = elim (cases_eq y h.own) [
    | inl own ↦ ap (part_at after) own ∙ part_here m h.own Itself dinode ∙ sym sound.placed.own ∙ ap (part_at h) (sym own)
    | inr other ↦ part_apart m h.own Itself dinode y other ∙ elim (cases_eq y x) [
      | inl here ↦ ap (part_at m) here ∙ part_here h x part new ∙ sym part_x ∙ ap (part_at h) (sym here)
      | inr another ↦ part_apart h x part new y another
    ]
  ]

  dinode_is : dinode_in after ≡ counting (dinode_in h) 1 links 0
  dinode_is = dinode_now h m.cell dinode 1 links 0 (tree_of h sound.inode) sound.placed keeps_m whole_m same_m counts_m written

  no_blocks : (d : Dinode) → counting d 1 links 0 ≡ record d { entries = d.entries + 1; nlink = d.nlink + links }
  no_blocks d = ap (λ n. record d { entries = d.entries + 1; nlink = d.nlink + links; blocks = n }) (no_more d.blocks)
    where
      no_more : (n : ℕ) → n + 0 ≡ n
      no_more n = omega arith

  put : IsPutInLeaf h after name e
  put = record {
    same = record {
      size = refl;
      count = refl;
      own = refl;
      tree = sound_now h m.cell dinode 1 links 0 (tree_of h sound.inode) sound.placed keeps_m whole_m same_m counts_m written;
      placed = placed_now h m.cell dinode 1 links 0 (tree_of h sound.inode) sound.placed keeps_m whole_m same_m counts_m written;
    };
    leaf = x;
    at_place = place;
    chain = chain;
    full_before = full;
    slots = filled.slots;
    put = filled.put;
    is = leaf_put_of after x (bytes_at h x) new _ filled.slots after_x filled.written;
    dinode = ap uncounted (dinode_is ∙ no_blocks (dinode_in h));
    counted = counts_more (dinode_in h) (dinode_in after) links (record_for name e) (dinode_is ∙ no_blocks (dinode_in h)) links_are;
    pads = pads_now h m.cell dinode 1 links 0 (tree_of h sound.inode) sound.placed keeps_m whole_m same_m counts_m written;
    behind = behind_now h m.cell dinode 1 links 0 (tree_of h sound.inode) sound.placed keeps_m whole_m same_m counts_m written;
    parts = parts;
    others = λ y other another. bytes_apart m h.own Itself dinode y other ∙ bytes_apart h x part new y another;
  }

  abbrev first : FinMap nat_cmp Fate
  first = insert fates x (Put (inode_lock h.own) false new)

  abbrev pub put_fates : FinMap nat_cmp Fate
  put_fates = insert (insert fates x (Put (inode_lock h.own) false new)) h.own (Put (inode_lock h.own) false dinode)

  puts : Puts v fates put_fates h after
  puts = puts_then v fates first put_fates h m after (one_put v fates h x part new) (one_put v first m h.own Itself dinode)

  pub puts_in_leaf : PutsInLeaf v fates put_fates h after name e x
  puts_in_leaf = record {
    puts = puts;
    put = put;
    only = λ b. elim (cases_eq b h.own) [
      | inl own ↦ inr (inl own)
      | inr other ↦ elim (cases_eq b x) [
        | inl here ↦ inr (inr here)
        | inr another ↦ inl (fate_apart first h.own (Put (inode_lock h.own) false dinode) b other ∙ fate_apart fates x (Put (inode_lock h.own) false new) b another)
      ]
    ];
    blocks = λ b. (before b, λ some. some_still m h.own Itself dinode b (some_still h x part new b some));
  }
    where
      before : (b : ℕ) → IsSome (after.cell b) → IsSome (h.cell b)
      before b some = elim (some_before m h.own Itself dinode b some) [
        | inl own ↦ subst (λ z. IsSome (h.cell z)) (sym own) some_own
        | inr there ↦ elim (some_before h x part new b there) [
          | inl here ↦ subst (λ z. IsSome (h.cell z)) (sym here) some_x
          | inr was ↦ was
        ]
      ]

-- ---- in a draft

module _ {V : Type 0} (seen : V → Seen) (old mid now : Drafted V) (dir : ℕ) (h : Holding) (name : List ℕ) (e : Entry) (place x links : ℕ) (new dinode : List ℕ) (shown : IsShown (seen_in seen old) dir h) (sound : IsSound h)
    (chain : IsInChain h (index_for h name) place x) (full : IsFullBefore h (index_for h name) (length name) place) (filled : IsLeafFilled (bytes_at h x) new (head_for name e) name)
    (first : mid ≡ record old { fates = insert old.fates x (Put (inode_lock dir) false new) }) (written : IsDinodeWritten (bytes_at h h.own) dinode (counting (dinode_in h) 1 links 0))
    (second : now ≡ record mid { fates = insert mid.fates dir (Put (inode_lock dir) false dinode) }) (links_are : links ≡ directory_count (record_for name e ∷ [])) where
  fates_are : put_fates (seen old.view) old.fates h name e place x links new dinode sound shown.hashed chain full filled written links_are ≡ now.fates
  fates_are =
      ap (λ o. insert (insert old.fates x (Put (inode_lock o) false new)) o (Put (inode_lock o) false dinode)) shown.inode.own
      ∙ sym (ap (λ (d : Drafted V). d.fates) second ∙ ap (λ (d : Drafted V). insert d.fates dir (Put (inode_lock dir) false dinode)) first)

  pub in_draft : (g : Holding) × PutsInLeaf (seen old.view) old.fates now.fates h g name e x
  in_draft = (
    after (seen old.view) old.fates h name e place x links new dinode sound shown.hashed chain full filled written links_are,
    subst (λ f. PutsInLeaf (seen old.view) old.fates f h (after (seen old.view) old.fates h name e place x links new dinode sound shown.hashed chain full filled written links_are) name e x) fates_are
        (puts_in_leaf (seen old.view) old.fates h name e place x links new dinode sound shown.hashed chain full filled written links_are),
  )
