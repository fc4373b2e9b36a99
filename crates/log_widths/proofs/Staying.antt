-- The numbers of a log stay within their widths.
use Rattle.std.proofs.Common.{◌≡◌, ◌≤◌, ◌<◌, ℕ, zero, suc, ◌⊎◌, inl, inr, Bool, true, false, ◌||◌, ◌&&◌, not, List, [], ◌∷◌, Option, None, Some, refl, sym, ap, subst, ◌∙◌, true≢false}
use Rattle.std.specs.Prelude.{if◌then◌else◌}
use Rattle.std.specs.FinMap as table
use Rattle.std.specs.List.{All}
use Rattle.std.specs.Ordering.{eq_by_cmp, nat_cmp}
use Rattle.std.proofs.lemmas.Bool.{cases_Bool, cases_eq}
use Rattle.std.proofs.lemmas.List.Elements.{All-cons, All-head, All-nil, All-tail}
use Rattle.finite_maps.proofs.Keys.{untied}
use Rattle.drafts.specs.declared.change.Change.{Change}
use Rattle.drafts.specs.declared.change.Written.{Written}
use Rattle.glock_names.specs.declared.LockName.{LockName}
use Rattle.log_values.specs.Blocks as set
use Rattle.log_values.specs.Changes.{has_entry, version_of, with_change, with_freed, with_written, without_all, without_written}
use Rattle.log_values.specs.Flushing.{Begins, FlushStep, a_barrier, a_block, a_header, alone, at_stage, begun, begun_alone, goes_on, the_last, with_all}
use Rattle.log_values.specs.Homing.{HomeAnswer, Settles, goes_home, nothing}
use Rattle.log_values.specs.Laws.{empty_log}
use Rattle.log_values.specs.Log.{Entry, Flush, Journal, LogValue, Stage, Version}
use Rattle.log_values.specs.Transactions.{live_among}
use Rattle.log_values.proofs.BlocksHad.{contains-empty, contains-insert, contains-remove, contains-retain}
use Rattle.log_values.proofs.Changing.{dropped_all, written_all}
use Rattle.log_widths.specs.Laws.{BeginningKeepsWidths, ChangesKeepWidths, EmptyHasWidths, HomingKeepsWidths, SettlingKeepsWidths, StepsKeepWidths}
use Rattle.log_widths.specs.Widths.{AreBytes, HasChangeWidths, HasJournalWidths, HasLogWidths, HaveBlockWidths, HaveVersionWidths, IsNumber}

-- ---- none

no_versions : HaveVersionWidths table.empty
no_versions b v is = absurd (let e : None ≡ Some v = sym (table.get-empty nat_cmp b) ∙ is in cc)

no_blocks : HaveBlockWidths set.empty
no_blocks b there = absurd (true≢false (sym there ∙ contains-empty b))

none_flushed : (f : Flush) → None ≡ Some f → HaveVersionWidths f.versions × HaveBlockWidths f.revokes
none_flushed f e = absurd cc

pub empty_has_widths : EmptyHasWidths
empty_has_widths journal head sequence widths = record { journal = widths; fresh = no_versions; gone = no_blocks; flushed = none_flushed }

-- ---- sets

in_insert : (s : set.Blocks) (k q : ℕ) → set.contains (set.insert s k) q ≡ true → (q ≡ k) ⊎ (set.contains s q ≡ true)
in_insert s k q there = by (cases_eq q k)
  where
    by : (q ≡ k) ⊎ (q ≡ k → ⊥) → (q ≡ k) ⊎ (set.contains s q ≡ true)
    by (inl e) = inl e
    by (inr ne) = inr (ap (λ b. b || set.contains s q) (sym (untied table.nat_cmp-IsAntisymmetric q k ne)) ∙ sym (contains-insert s k q) ∙ there)

right_of : (a b : Bool) → (a && b) ≡ true → b ≡ true
right_of true b e = e
right_of false b e = absurd (true≢false (sym e))

left_of : (a b : Bool) → (a && b) ≡ true → a ≡ true
left_of true b e = refl
left_of false b e = absurd (true≢false (sym e))

freed_blocks : (test : ℕ → Bool) (bs : List ℕ) (s : set.Blocks) → All IsNumber bs → HaveBlockWidths s → HaveBlockWidths (with_freed test bs s)
freed_blocks test [] s numbers each = each
freed_blocks test (k ∷ bs) s numbers each = freed_blocks test bs (if test k then set.insert s k else s) (All-tail IsNumber k bs numbers) (λ b there. by b (test k) there)
  where
    by : (b : ℕ) (t : Bool) → set.contains (if t then set.insert s k else s) b ≡ true → IsNumber b
    by b true there = elim (in_insert s k b there) [ inl e ↦ subst IsNumber (sym e) (All-head IsNumber k bs numbers) | inr x ↦ each b x ]
    by b false there = each b there

left_blocks : (ws : List Written) (s : set.Blocks) → HaveBlockWidths s → HaveBlockWidths (without_written ws s)
left_blocks [] s each = each
left_blocks (w ∷ ws) s each = left_blocks ws (set.remove s w.block) (λ b there. each b (right_of _ _ (sym (contains-remove s w.block b) ∙ there)))

-- ---- a change

abbrev IsWide : ℕ → Version → Type 0
IsWide b v = IsNumber b × AreBytes v.bytes

wide_written : (ws : List Written) → All (λ (w : Written). IsNumber w.block) ws → All (λ (w : Written). AreBytes w.bytes) ws → All (λ (w : Written). (l : LockName) → IsWide w.block (version_of w l)) ws
wide_written [] numbers bytes = All-nil (λ (w : Written). (l : LockName) → IsWide w.block (version_of w l))
wide_written (w ∷ ws) numbers bytes =
    All-cons (λ (x : Written). (l : LockName) → IsWide x.block (version_of x l)) w ws (λ l. (All-head (λ (x : Written). IsNumber x.block) w ws numbers, All-head (λ (x : Written). AreBytes x.bytes) w ws bytes))
    (wide_written ws (All-tail (λ (x : Written). IsNumber x.block) w ws numbers) (All-tail (λ (x : Written). AreBytes x.bytes) w ws bytes))

pub changes_keep_widths : ChangesKeepWidths
changes_keep_widths log c widths change = record {
  journal = widths.journal;
  fresh = written_all IsWide c.blocks.items c.locks.items (without_all c.freed.items log.fresh) (wide_written c.blocks.items change.numbers change.bytes) (dropped_all IsWide c.freed.items log.fresh widths.fresh);
  gone = left_blocks c.blocks.items (with_freed (has_entry log) c.freed.items log.gone) (freed_blocks (has_entry log) c.freed.items log.gone change.freed widths.gone);
  flushed = widths.flushed;
}

-- ---- a flush

some_same : {f g : Flush} → Some f ≡ Some g → f ≡ g
some_same e = cc

-- of the flush that is this
of_flush : {f : Flush} → HaveVersionWidths f.versions → HaveBlockWidths f.revokes → (g : Flush) → Some f ≡ Some g → HaveVersionWidths g.versions × HaveBlockWidths g.revokes
of_flush versions revokes g e = subst (λ (x : Flush). HaveVersionWidths x.versions × HaveBlockWidths x.revokes) (some_same e) (versions, revokes)

pub beginning_keeps_widths : BeginningKeepsWidths
beginning_keeps_widths log _ widths (with_all none due room) = record { journal = widths.journal; fresh = no_versions; gone = no_blocks; flushed = of_flush widths.fresh widths.gone }
beginning_keeps_widths log _ widths (alone none home some no_more) = record { journal = widths.journal; fresh = widths.fresh; gone = widths.gone; flushed = of_flush no_versions no_blocks }
beginning_keeps_widths log _ widths (goes_on f is) = widths

-- another stage, and other live blocks
staged : (log : LogValue) (f : Flush) (stage : Stage) → HasLogWidths log → log.flush ≡ Some f → HasLogWidths (at_stage log f stage)
staged log f stage widths is = record { journal = widths.journal; fresh = widths.fresh; gone = widths.gone; flushed = of_flush (widths.flushed f is).0 (widths.flushed f is).1 }

with_live : (log : LogValue) (live : table.FinMap nat_cmp Entry) → HasLogWidths log → HasLogWidths (record log { live = live })
with_live log live widths = record { journal = widths.journal; fresh = widths.fresh; gone = widths.gone; flushed = widths.flushed }

pub steps_keep_widths : StepsKeepWidths
steps_keep_widths log new f bytes _ widths is (a_block k stage block new_is) = subst HasLogWidths (sym new_is) (staged log f _ widths is)
steps_keep_widths log new f bytes _ widths is (a_barrier stage new_is live) = subst HasLogWidths (sym new_is) (with_live (at_stage log f _) new.live (staged log f _ widths is))
steps_keep_widths log new f bytes _ widths is (a_header tail stage tells bytes_are new_is) = subst HasLogWidths (sym new_is) (staged log f _ widths is)
steps_keep_widths log new f bytes _ widths is (the_last tail stage new_is live) = subst HasLogWidths (sym new_is) (record {
  journal = widths.journal;
  fresh = widths.fresh;
  gone = λ b there. widths.gone b (left_of _ _ (sym (contains-retain log.gone (table.contains_key new.live) b) ∙ there));
  flushed = none_flushed;
})

-- ---- on the way home

pub homing_keeps_widths : HomingKeepsWidths
homing_keeps_widths log new lock bytes _ widths (nothing none same) = subst HasLogWidths (sym same) widths
homing_keeps_widths log new lock bytes _ widths (goes_home b is idle least new_is) = subst HasLogWidths (sym new_is) (with_live log _ widths)

pub settling_keeps_widths : SettlingKeepsWidths
settling_keeps_widths log new widths settles = subst HasLogWidths (sym settles.same) (with_live log new.live widths)
