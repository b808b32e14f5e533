-- All that is known of lines is known of them in another order.
use Rattle.std.proofs.Common.{List, refl}
use Rattle.cmm_tree.specs.Tree.{FunctionTree}
use Rattle.mach_ir.specs.Keeps.{Keeps}
use Rattle.mach_ir.specs.declared.mach.Mach.{Mach}
use Rattle.mach_ir.specs.declared.mach.MachOp.{MachOp}
use Rattle.lin_ir.specs.Descriptors.{NamesLives, NoAddrLive}
use Rattle.lin_ir.specs.Keeps.{IsNamedIn, LinearKeeps}
use Rattle.lin_ir.specs.Meaning.{NamedAt}
use Rattle.lin_ir.specs.Walks.{by_walk}
use Rattle.lin_ir.specs.declared.lin.Lin.{Lin}
use Rattle.lin_ir.specs.declared.lin.Line.{Line}
use Rattle.lin_ir.proofs.Keeping.{keeps_then}
use Rattle.linearise_rules.specs.Keeps.{NoAddrReached, KeepsReached}
use Rattle.linearise_rules.proofs.Walked.{not_spare, reached_stands}
use Rattle.line_stands.specs.Lines.{OffsetFits}
use Rattle.lin_tidy_rules.specs.Leaving.{with_code}
use Rattle.lin_tidy_rules.specs.Regular.{IsRegular, IsTidy}
use Rattle.lin_tidy_rules.proofs.Keeping.{names_reached}
use Rattle.lin_tidy_rules.proofs.Living.{live_home}
use Rattle.lin_tidy_rules.proofs.Whole.{tidy_tight}
use Rattle.made_functions.specs.Chained.{AreLinesOf}
use Rattle.schedule_rules.specs.Orders.{Ordered, scheduled}
use Rattle.schedule_rules.proofs.Doing.{reordered_does}
use Rattle.schedule_rules.proofs.Named.{scheduled_does}
use Rattle.schedule_rules.proofs.Reorder.{scheduled_ordered}
use Rattle.selection_rules.specs.Select.{selected}
use Rattle.scheduled_lines.proofs.Forms.{was_in, all_kept, regular_kept}
use Rattle.scheduled_lines.proofs.InStep.{in_step}
use Rattle.scheduled_lines.proofs.Points.{no_addr, same_points}
use Rattle.scheduled_lines.proofs.Tidy.{tidy_kept}
use Rattle.scheduled_lines.proofs.Walks.{fits, unended}

module _ (tree : FunctionTree) (p : Mach) (m : Lin) (code : List Line) (keeps : Keeps (selected tree) p) (reached : KeepsReached p m) (lines : AreLinesOf tree m)
    (order : Ordered m.code code) where
  abbrev R : Lin
  R = with_code m code

  regular : IsRegular R
  regular = regular_kept m code order lines.regular

  tidy : IsTidy R
  tidy = tidy_kept m code order lines.regular lines.tidy

  none_live : NoAddrLive R
  none_live = no_addr (same_points m code order lines.regular.well.locations) lines.no_addr

  none_reached : NoAddrReached R
  none_reached = record { none = λ i next tries x e l v. none_live.none i next (reached_stands R x) e l (record { tries = tries; traps = by_walk x; across = v }) }

  named_was : {Named : MachOp → Type 0} → IsNamedIn Named R → IsNamedIn Named m
  named_was n = record { line = n.line; among = was_in m code order n.line n.among; op = n.op; is = n.is; named = n.named }

  -- With exact names it does what the Mach function does: between, both do the same by the shapes of blocks.
  keeps_named : (named : NamedAt) → NamesLives R named → LinearKeeps p R named
  keeps_named named exact =
      record {
        name = reached.name;
        result = reached.result;
        does = scheduled_does p m R reached.does (reordered_does m R order refl regular.well.locations) regular.well none_reached named
            (names_reached R regular.traps named exact);
        symbols = λ name n. reached.symbols name (named_was n);
        externals = λ row n. reached.externals row (named_was n);
        addrs = λ h. none_live;
      }

  pub lines_kept : AreLinesOf tree R
  lines_kept =
      record {
        keeps = λ named exact. keeps_then (selected tree) p R named keeps (keeps_named named exact);
        regular = regular;
        tidy = tidy;
        tight = tidy_tight R regular tidy;
        no_addr = none_live;
        spare_dead = λ i next t s v. not_spare {m = R} (live_home R regular.homes s v) refl;
        within = fits m R (in_step order) refl lines.within;
        offsets = all_kept m code order (λ (i : Line). OffsetFits i.op) lines.offsets;
        unended = unended m R (in_step order) lines.unended;
      }

-- So it is of scheduled lines.
pub scheduled_kept : (tree : FunctionTree) (p : Mach) (m : Lin) → Keeps (selected tree) p → KeepsReached p m → AreLinesOf tree m → AreLinesOf tree (with_code m (scheduled m.code))
scheduled_kept tree p m keeps reached lines = lines_kept tree p m (scheduled m.code) keeps reached lines (scheduled_ordered m.code)
