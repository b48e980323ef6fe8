-- At the places that costing tells stand the commands that are at fault. Assumes nothing.
use Rattle.std.proofs.ByRecursion.{All-weaker, All-append}
use Rattle.std.proofs.Common.{◌≡◌, ℕ, suc, ◌+◌, ltb, List, [], ◌∷◌, ◌++◌, map, length, Some, None, Ok, Err, Option, Result, refl, ap, ◌∙◌, subst, inl, inr}
use Rattle.std.specs.List.{AllByRecursion}
use Rattle.faults.specs.declared.fault.CostFault.{CostFault}
use Rattle.faults.specs.declared.fault.CostFault.TheVariants.{Unknown, Cycle, TooDear}
use Rattle.commands.specs.declared.table.Command.TheVariants as command
use Rattle.commands.specs.declared.table.Context.TheVariants.{Top, Body, BlockDue}
use Rattle.commands.specs.Commands.{after}
use Rattle.reading.specs.declared.heads.Head.{Head}
use Rattle.reading.specs.Bodies.{BodyRead, TaskRead}
use Rattle.reading.specs.Listings.{listing, routine_head}
use Rattle.reading.specs.Trees.{Routine, Task, Listing}
use Rattle.reading.proofs.Stepped.{nothing}
use Rattle.listing.specs.Values.{Costs}
use Rattle.listing.specs.Cycles.{Table}
use Rattle.listing.specs.Costed.{cost_told, costs_of}
use Rattle.listing.specs.Costing.{call_lists, block_lists, reach_table, cycle_from, dear_from, cost_in, unless, judged_after, costing}
use Rattle.listing.specs.Places.{Stands, FaultStands, PlaceTold}
use Rattle.listing.proofs.Judged.{listing_parts}
use Rattle.listing.proofs.Standing.{calls_stand, blocks_stand, cond_has, self_has, unknown_has}
use Rattle.listing.proofs.Walked.{calls_are}

module _ (bs : List ℕ) where
  abbrev Named : Head → Type 0
  Named h = FaultStands bs (Unknown h.at h.code)

  abbrev Begun : Head → Type 0
  Begun h = Stands bs (command.Routine h.code) h.at

  calls_named : (rs : List Routine) → AllByRecursion (BodyRead bs) rs → AllByRecursion (AllByRecursion Named) (call_lists rs)
  calls_named [] all = tt
  calls_named (r ∷ rs) all = (
    subst (AllByRecursion Named) (calls_are bs r all.0) (All-weaker _ _ (λ h e. inl (Body, e)) _ (calls_stand (suc (length bs)) bs (after Top bs r.at))),
    calls_named rs all.1,
  )

  blocks_named : (ts : List Task) → AllByRecursion (TaskRead bs) ts → AllByRecursion (AllByRecursion Named) (block_lists ts)
  blocks_named [] all = tt
  blocks_named (t ∷ ts) all = (
    All-weaker _ _ (λ h e. inr (BlockDue, e)) _ (blocks_stand (suc (length bs)) bs 0 _ (t.blocks, all.0.end) all.0.blocks_are),
    blocks_named ts all.1,
  )

  begun : (rs : List Routine) → AllByRecursion (BodyRead bs) rs → AllByRecursion Begun (map routine_head rs)
  begun [] all = tt
  begun (r ∷ rs) all = ((Top, all.0.command_is), begun rs all.1)

  -- the first cycle and the first dear routine are among the routines
  cycle_begun : (t : Table) (k : ℕ) (hs : List Head) (h : Head) → AllByRecursion Begun hs → cycle_from t k hs ≡ Some h → Begun h
  cycle_begun t k [] h all e = nothing e
  cycle_begun t k (x ∷ xs) h all e = cond_has Begun (t k x.code) (Some x) (cycle_from t (k + 1) xs) h (self_has Begun x h all.0) (cycle_begun t (k + 1) xs h all.1) e

  dear_begun : (of : ℕ → ℕ) (hs : List Head) (h : Head) → AllByRecursion Begun hs → dear_from of hs ≡ Some h → Begun h
  dear_begun of [] h all e = nothing e
  dear_begun of (x ∷ xs) h all e = cond_has Begun (ltb 1000000 (of x.code)) (Some x) (dear_from of xs) h (self_has Begun x h all.0) (dear_begun of xs h all.1) e

  -- so what is told first of the three stands where it is told
  by_order : (l : Listing) (u c d : Option Head) → ((h : Head) → u ≡ Some h → Named h) → ((h : Head) → c ≡ Some h → Begun h) → ((h : Head) → d ≡ Some h → Begun h) → (f : CostFault) → Err f ≡ costs_of (unless u Unknown (unless c Cycle (unless d TooDear (Ok l)))) → FaultStands bs f
  by_order l (Some h) c d x y z f e = let same : Unknown h.at h.code ≡ f = cc in subst (FaultStands bs) same (x h refl)
  by_order l None (Some h) d x y z f e = let same : Cycle h.at h.code ≡ f = cc in subst (FaultStands bs) same (y h refl)
  by_order l None None (Some h) x y z f e = let same : TooDear h.at h.code ≡ f = cc in subst (FaultStands bs) same (z h refl)
  by_order l None None None x y z f e = cc

  pub places_told : (l : Listing) → listing bs ≡ Ok l → (r : Result Costs CostFault) → cost_told r ≡ costs_of (costing bs) → PlaceTold bs r
  unfolding costing
  places_told l is (Ok k) e = tt
  places_told l is (Err f) e =
      let p = listing_parts bs l is in
      by_order l _ _ _ (λ h q. unknown_has Named (map routine_head l.routines) (call_lists l.routines ++ block_lists l.tasks) h (All-append (AllByRecursion Named) (call_lists l.routines) (block_lists l.tasks) (calls_named l.routines p.0) (blocks_named l.tasks p.1)) q)
      (λ h q. cycle_begun (reach_table l.routines) 0 (map routine_head l.routines) h (begun l.routines p.0) q) (λ h q. dear_begun (cost_in l.routines 32) (map routine_head l.routines) h (begun l.routines p.0) q) f (e ∙ ap (λ x. costs_of (judged_after x)) is)
