-- A directory of any form in which a name was led elsewhere.
use Rattle.std.proofs.Common.{◌≡◌, ◌≢◌, ℕ, ◌<◌, ◌≤◌, ◌^◌, inl, inr, true, false, List, [], ◌∷◌, length, drop, Some, refl, sym, ap, ◌∙◌, subst, arith}
use Rattle.std.specs.Prelude.{if◌then◌else◌, Bool}
use Rattle.std.specs.FinMap.{insert}
use Rattle.crc_words.specs.Remainder.{crc32_of}
use Rattle.drafts.specs.Fates.{Drafted, seen_in}
use Rattle.drafts.specs.declared.fate.Fate.TheVariants.{Put}
use Rattle.gfs2_layout.specs.Holding.{Holding, bytes_at}
use Rattle.gfs2_layout.specs.Inode.{is_directory_in, is_hashed_in, leaf_length, linear_area, records_of}
use Rattle.gfs2_layout.specs.Records.{Record, record_named, record_of, records_in}
use Rattle.gfs2_layout.specs.Structures.{dinode_length}
use Rattle.gfs2_layout.specs.declared.inum.Inum.{Inum}
use Rattle.glock_names.specs.Views.{Seen, IsView}
use Rattle.dinode_tree.specs.Reading.{inode_lock}
use Rattle.linear_dirs.specs.Exchanges.{HasExchanged}
use Rattle.linear_dirs.specs.Shown.{holding_over}
use Rattle.linear_dirs.proofs.Looked.{bytes_of}
use Rattle.linear_dirs.proofs.Rewritten.{seen_at}
use Rattle.resource_groups.specs.Putting.{HasDataBlock}
use Rattle.hash_dirs.specs.Finding.{ChainsTellNames, in_leaf}
use Rattle.hash_dirs.specs.Shown.{IsSound}
use Rattle.directories.specs.Shown.{IsShown}
use Rattle.directories.specs.Taking.{HasRecordOf}
use Rattle.directories.proofs.Forms.{leaves_shown}
use Rattle.name_redirects.specs.Leading.{record_led_to}
use Rattle.name_redirects.specs.Redirects.{IsNameLed, records_from}
use Rattle.name_redirects.proofs.Blocks.{is_named, slot}
use Rattle.name_redirects.proofs.Hashed.{hashed_exchanged}
use Rattle.name_redirects.proofs.Linear.{linear_exchanged}
use Rattle.name_redirects.proofs.Places.{InLeaf, leaf_bytes, where_of}

same_record : (r q : Record) → Some r ≡ Some q → r ≡ q
same_record r q e = cc

plain_records : (h : Holding) → is_hashed_in h ≡ false → records_of h ≡ records_in (linear_area h)
unfolding records_of
plain_records h unhashed = rw unhashed refl

-- what was put is seen
pub sees_put : {V : Type 0} (seen : V → Seen) (before after : Drafted V) (dir block : ℕ) (new : List ℕ) → after ≡ record before { fates = insert before.fates block (Put (inode_lock dir) false new) }
    → (seen_in seen after).block_at block ≡ Some new
sees_put {V} seen before after dir block new put = ap (λ (d : Drafted V). (seen_in seen d).block_at block) put ∙ seen_at (seen before.view) before.fates block (inode_lock dir) new

module _ {V : Type 0} (seen : V → Seen) (before after : Drafted V) (dir block : ℕ) (name old new : List ℕ) (inum : Inum) (shows : IsView (seen_in seen before)) (lies : HasDataBlock (seen_in seen before) block)
    (there : (seen_in seen before).block_at block ≡ Some old) (large : 512 ≤ length old) (put : after ≡ record before { fates = insert before.fates block (Put (inode_lock dir) false new) })
    (some : inum.number ≢ 0) (some' : inum.address ≢ 0) (chains : ChainsTellNames) (small : crc32_of name < 2 ^ 32) where
  abbrev v : Seen
  v = seen_in seen before

  module _ (h : Holding) (r : Record) (shown : IsShown v dir h) (directory : is_directory_in h ≡ true) (sound : is_hashed_in h ≡ true → IsSound h) (named : record_named (records_of h) name ≡ Some r)
      (led : IsNameLed (records_from h) old new name inum) where
    in_own : is_hashed_in h ≡ false → block ≡ h.own → HasExchanged h (holding_over (seen_in seen after) h) (r ∷ []) (record_led_to inum r ∷ [])
    in_own plain own =
        let at : block ≡ dir = own ∙ shown.inode.own in
        let led' : IsNameLed dinode_length old new name inum = subst (λ (n : ℕ). IsNameLed n old new name inum) (ap (λ (b : Bool). if b then leaf_length else dinode_length) plain) led in
        let there' : v.block_at dir ≡ Some old = ap v.block_at (sym at) ∙ there in
        let long : dinode_length ≤ length old = omega (arith, large) in
        let is : record_of (slot dinode_length old new name inum long led') ≡ r =
        same_record _ r (sym (is_named dinode_length old new name inum long led')
        ∙ ap (λ (b : List ℕ). record_named (records_in (drop dinode_length b)) name) (sym (bytes_of v h dir old shown.inode there')) ∙ sym (ap (λ (rs : List Record). record_named rs name) (plain_records h plain)) ∙ named) in
        subst (λ (q : Record). HasExchanged h (holding_over (seen_in seen after) h) (q ∷ []) (record_led_to inum q ∷ [])) is
        (linear_exchanged seen before after dir h old new name inum shown.inode directory plain there' long led'
        (put ∙ ap (λ (b : ℕ). record before { fates = insert before.fates b (Put (inode_lock dir) false new) }) at) some some')

    in_a_leaf : is_hashed_in h ≡ true → InLeaf h name block → HasExchanged h (holding_over (seen_in seen after) h) (r ∷ []) (record_led_to inum r ∷ [])
    in_a_leaf is leaf =
        let led' : IsNameLed leaf_length old new name inum = subst (λ (n : ℕ). IsNameLed n old new name inum) (ap (λ (b : Bool). if b then leaf_length else dinode_length) is) led in
        let long : leaf_length ≤ length old = omega (arith, large) in
        let same = leaf_bytes v shows dir block name lies h old shown is leaf there in
        let here : record_named (records_in (drop leaf_length (bytes_at h block))) name ≡ Some (record_of (slot leaf_length old new name inum long led')) =
        ap (λ (b : List ℕ). record_named (records_in (drop leaf_length b)) name) same ∙ is_named leaf_length old new name inum long led' in
        let first = chains h name (Some (record_of (slot leaf_length old new name inum long led'))) (sound is) is small (in_leaf leaf.place block (record_of (slot leaf_length old new name inum long led')) leaf.chain here leaf.later leaf.heads) in
        subst (λ (q : Record). HasExchanged h (holding_over (seen_in seen after) h) (q ∷ []) (record_led_to inum q ∷ [])) (same_record _ r (first ∙ named))
        (hashed_exchanged seen before after dir h block old new name inum (leaves_shown v dir h shown is) (sound is) leaf.place leaf.chain there long led' put some some')

    pub has_exchanged : HasRecordOf h name block → HasExchanged h (holding_over (seen_in seen after) h) (r ∷ []) (record_led_to inum r ∷ [])
    has_exchanged has = elim (where_of h name block has) [ inl own ↦ in_own own.0 own.1 | inr leaf ↦ in_a_leaf leaf.0 leaf.1 ]
