use Rattle.std.proofs.Common.{◌≡◌, ◌+◌, ◌≤◌, length, drop}
use Rattle.std.specs.List.{AllByRecursion}
use Rattle.thr_base.specs.Limits.{most_tests}
use Rattle.thread_cfg.specs.inside.Meant.{frame_of}
use Rattle.thread_cfg.specs.inside.Seen.{HeldEventWithin, IsSeenOver, held_in, inputs_in, seen_behind}
use Rattle.thread_cfg.proofs.along.Along.follow_all.Given as goal

-- the events that are left lead from what is held to what all of them lead to
abbrev pub invariant-events : goal.invariant-events
invariant-events l = record {
  within : AllByRecursion (HeldEventWithin l.setting.columns (frame_of l.setting.frame)) (drop l.event-index l.events);
  over : IsSeenOver l.setting.columns l.setting.width (held_in l.self);
  inputs : l.setting.columns + l.self.inputs + inputs_in (drop l.event-index l.events) ≤ l.setting.width;
  room : length l.self.tests.rows + length (drop l.event-index l.events) ≤ most_tests;
  left : seen_behind l.setting.width l.setting.columns (frame_of l.setting.frame) (drop l.event-index l.events) (held_in l.self)
      ≡ seen_behind l.setting.width l.setting.columns (frame_of l.setting.frame) l.events (held_in l.fn.self);
}
