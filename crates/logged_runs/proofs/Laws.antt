-- What remains of a run of one node with its log, told by its items.
use Rattle.std.proofs.Common.{◌≡◌, drop, length, take, inl, inr, sym, ap, subst, ◌∙◌}
use Rattle.journal_outcomes.specs.Disks.{FencesLeaveOutcomes}
use Rattle.logged_steps.specs.NodeEnds.{ItsEndsStand}
use Rattle.logged_steps.specs.Fences.{ImagesAtRestStay}
use Rattle.logged_steps.specs.LoggedLaws.{ItsHistoryIsLegal, ItsOutcomesStand}
use Rattle.logged_steps.specs.Disks.{disk_after, first_told}
use Rattle.logged_steps.specs.Fails.{AsItWas}
use Rattle.logged_steps.specs.Laws.{FailedWritesKeep, FrontsArePassed, HeadsAreTold, StepsAreTold, StepsKeep}
use Rattle.logged_runs.specs.Laws.{EndsAreTold, FencesAreTold, FrontsStand, HeadsAreThere, MayLeave, PrefixesStand, StopsAreTold, WhatRemainsIsTold}
use Rattle.logged_runs.specs.Standing.{IsLeftAsTold}
use Rattle.logged_runs.proofs.Endings.{front_of_end}
use Rattle.logged_runs.proofs.Fronts.{told_fenced, told_stopped, told_there}
use Rattle.logged_runs.proofs.Runs.{front_of_run}

module _ (keep : StepsKeep) (fails : FailedWritesKeep) (heads : HeadsAreTold) (tells : StepsAreTold) (legal : ItsHistoryIsLegal) (outcomes : ItsOutcomesStand) where
  pub what_remains_is_told : WhatRemainsIsTold
  what_remains_is_told v s d clients time a p q disks left begins steps fail first may accepts =
      told_there v s d clients a q _ (front_of_run keep fails heads tells legal v s d clients time a p q begins steps fail outcomes) left disks first may accepts

  pub fronts_stand : FrontsArePassed → FrontsStand
  fronts_stand passed v s d clients time a p count begins steps low high =
      let came = passed time a p count steps low high in
      record {
        came = came;
        stands = λ disks left first may accepts.
            subst (λ is. IsLeftAsTold v d clients disks is s.tree left) (sym came.items)
            (what_remains_is_told v s d clients time a came.point came.point disks left begins came.before AsItWas first may accepts);
      }

  pub prefixes_stand : FrontsArePassed → PrefixesStand
  prefixes_stand passed v s d clients time a p count was operations disks left begins steps was_is all_is low high first may accepts =
      let front = fronts_stand passed v s d clients time a p count begins steps low high in
      let there : front.came.point.disk ≡ disk_after a.disk (first_told (drop (length a.items) (take count p.items)) operations)
      = front.came.disk was operations was_is all_is ∙ ap (λ is. disk_after a.disk (first_told (drop (length a.items) is) operations)) (sym front.came.items) in
      front.stands disks left first (subst (λ disk. MayLeave v disk left) (sym there) may) accepts

  module _ (ends : ItsEndsStand) (rest : ImagesAtRestStay) where
    pub ends_are_told : EndsAreTold
    ends_are_told v s d clients time a p q disks left begins steps end first may accepts =
        told_there v s d clients a q _ (front_of_end keep fails heads tells legal ends rest v s d clients time a p q begins steps end) left disks first may accepts

    pub heads_are_there : HeadsAreThere
    heads_are_there v s d clients time a p q left begins steps (inl fail) may =
        let rem = (front_of_run keep fails heads tells legal v s d clients time a p q begins steps fail outcomes).remains left may in
        record { header = rem.head; headed = rem.headed; blocks = rem.blocks }
    heads_are_there v s d clients time a p q left begins steps (inr end) may =
        let rem = (front_of_end keep fails heads tells legal ends rest v s d clients time a p q begins steps end).remains left may in
        record { header = rem.head; headed = rem.headed; blocks = rem.blocks }

    pub stops_are_told : StopsAreTold
    stops_are_told v s d clients time a p q x disks left begins steps (inl fail) is_stop first may accepts =
        told_stopped v s d clients a q _ (front_of_run keep fails heads tells legal v s d clients time a p q begins steps fail outcomes) x is_stop left disks first may accepts
    stops_are_told v s d clients time a p q x disks left begins steps (inr end) is_stop first may accepts =
        told_stopped v s d clients a q _ (front_of_end keep fails heads tells legal ends rest v s d clients time a p q begins steps end) x is_stop left disks first may accepts

    pub fences_are_told : FencesLeaveOutcomes → FencesAreTold
    fences_are_told fences v s d clients time a p q x disks became begins steps (inl fail) is_stop settles first no_false accepts =
        told_fenced v s d clients a q _ (front_of_run keep fails heads tells legal v s d clients time a p q begins steps fail outcomes) fences legal x is_stop disks became settles first no_false accepts
    fences_are_told fences v s d clients time a p q x disks became begins steps (inr end) is_stop settles first no_false accepts =
        told_fenced v s d clients a q _ (front_of_end keep fails heads tells legal ends rest v s d clients time a p q begins steps end) fences legal x is_stop disks became settles first no_false accepts
