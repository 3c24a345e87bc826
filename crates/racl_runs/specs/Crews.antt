-- Tables of the size that the words ask for, and workers over them after the packets that they judged.
use Rattle.std.specs.Prelude.{◌≡◌, ◌++◌, ℕ, Bool, true, List, length}
use Rattle.packet_view.specs.Captures.{PacketFacts}
use Rattle.acl_policy.specs.Policies.{PolicyFacts, policy_facts}
use Rattle.bihash_words.specs.declared.shape.Shape.{Ghosts}
use Rattle.session_state.specs.declared.timeouts.Timeouts.{Timeouts}
use Rattle.flow_filter.specs.OneThread.{layout_of}
use Rattle.flow_filter.specs.declared.interface_filters.InterfaceFilters.{InterfaceFilters}
use Rattle.session_state.specs.declared.verdict.Verdict.{Verdict}
use Rattle.flow_dealing.specs.Dealings.{Deal}
use Rattle.flow_dealing.specs.Views.{Views}
use Rattle.flow_dealing.specs.WorkerRecords.{AreJudgedAgeing}
use Rattle.flow_workers.specs.Callers.{AreIdle, first_views, views_of}
use Rattle.flow_workers.specs.Progress.{AreRestingBehind}
use Rattle.flow_workers.specs.declared.session_tables.Callers.{Callers}
use Rattle.flow_workers.specs.declared.session_tables.Tables.{Tables}
use Rattle.flow_workers.specs.declared.workers.Workers.{Workers}
use Rattle.racl_options.specs.declared.settings.TableSize.{TableSize}
use Rattle.racl_options.specs.declared.settings.TableSize.TheVariants as asked
use Rattle.racl_views.specs.HitCounts.{HaveCounted}
use Rattle.racl_views.specs.declared.hit_counts.HitCounts.{HitCounts}
use Rattle.racl_runs.specs.Runs.{bucket_deal}
use Rattle.racl_runs.specs.declared.sized_tables_and_workers.SizedCallers.{SizedCallers}
use Rattle.racl_runs.specs.declared.sized_tables_and_workers.SizedCallers.TheVariants as called
use Rattle.racl_runs.specs.declared.sized_tables_and_workers.SizedTables.{SizedTables}
use Rattle.racl_runs.specs.declared.sized_tables_and_workers.SizedTables.TheVariants as laid
use Rattle.racl_runs.specs.declared.sized_tables_and_workers.SizedWorkers.{SizedWorkers}
use Rattle.racl_runs.specs.declared.sized_tables_and_workers.SizedWorkers.TheVariants.{Standard, Large}
use Rattle.racl_runs.specs.declared.counted_judging.Counted.{Counted}

-- ---- tables

abbrev pub size_of : SizedTables → TableSize
size_of (laid.Standard own) = asked.Standard
size_of (laid.Large own) = asked.Large

-- from how many packets on that are judged at once workers have threads of their own
abbrev pub many_packets : ℕ
many_packets = 49152

-- whether the table of IPv4 cuts larger returned blocks
abbrev pub cuts_four : SizedTables → Bool
cuts_four (laid.Standard own) = own.four.cuts_blocks
cuts_four (laid.Large own) = own.four.cuts_blocks

-- the same of that of IPv6
abbrev pub cuts_six : SizedTables → Bool
cuts_six (laid.Standard own) = own.six.cuts_blocks
cuts_six (laid.Large own) = own.six.cuts_blocks

-- the tables have this size, and cut larger returned blocks, or don't, as this says
pub record AreAsAsked (asked_size : TableSize) (cuts : Bool) (tables : SizedTables) : Type 0 where
  pub size : size_of tables ≡ asked_size
  pub four : cuts_four tables ≡ cuts
  pub six : cuts_six tables ≡ cuts

-- callers of these tables, which made no call
pub record AreFirst {A B K L : Type 0} {ga : Ghosts A K} {gb : Ghosts B L} (tables : Tables A B K L)
    (callers : Callers A B K L ga gb) : Type 0 where
  pub idle : AreIdle ga gb tables callers
  pub first : views_of ga gb callers ≡ first_views (layout_of ga gb)

abbrev pub AreFirstOf : SizedTables → SizedCallers → Type 0
AreFirstOf (laid.Standard own) (called.Standard first) = AreFirst own first
AreFirstOf (laid.Large own) (called.Large first) = AreFirst own first
AreFirstOf _ _ = ⊥

-- callers of these tables that hold no lock and no block
abbrev AreIdleIn : {A B K L : Type 0} {ga : Ghosts A K} {gb : Ghosts B L} → Tables A B K L → Callers A B K L ga gb → Type 0
AreIdleIn {ga = ga} {gb = gb} tables callers = AreIdle ga gb tables callers

abbrev pub AreIdleOf : SizedTables → SizedCallers → Type 0
AreIdleOf (laid.Standard own) (called.Standard callers) = AreIdleIn own callers
AreIdleOf (laid.Large own) (called.Large callers) = AreIdleIn own callers
AreIdleOf _ _ = ⊥

-- what callers know
abbrev views_in : {A B K L : Type 0} {ga : Ghosts A K} {gb : Ghosts B L} → Callers A B K L ga gb → Views
views_in {ga = ga} {gb = gb} callers = views_of ga gb callers

abbrev pub views_with : SizedCallers → Views
views_with (called.Standard callers) = views_in callers
views_with (called.Large callers) = views_in callers

-- ---- workers

-- what workers judge by: their tables, how packets are dealt to them, how long sessions live, whether those that have ended are
-- removed, and the rules
pub record Orders : Type 0 where
  pub tables : SizedTables
  pub deal : Deal
  pub times : Timeouts
  pub ages : Bool
  pub policy : PolicyFacts

abbrev pub orders_for : SizedTables → InterfaceFilters → ℕ → Bool → Orders
orders_for tables filter workers ages = record {
  tables = tables;
  deal = bucket_deal (size_of tables) workers;
  times = filter.times;
  ages = ages;
  policy = policy_facts filter.policy.now;
}

-- those of workers whatever the size of their tables
abbrev pub orders_in : {A B R G K L : Type 0} {ga : Ghosts A K} {gb : Ghosts B L} → SizedTables → Workers A B R G K L ga gb → Orders
orders_in {ga = ga} {gb = gb} tables workers = record {
  tables = tables;
  deal = record { layout = layout_of ga gb; dealing = workers.setup.dealing; workers = workers.setup.workers };
  times = workers.setup.filter.now.times;
  ages = workers.setup.ages;
  policy = policy_facts workers.setup.filter.now.policy.now;
}

abbrev pub orders_of : {T : Type 0} → SizedWorkers T → Orders
orders_of (Standard workers) = orders_in (laid.Standard workers.setup.tables.now) workers
orders_of (Large workers) = orders_in (laid.Large workers.setup.tables.now) workers

-- workers after these packets, of which they handed over this
abbrev pub AreRestingWith : {T : Type 0} → List PacketFacts → List Verdict → SizedWorkers T → Type 0
AreRestingWith packets said (Standard workers) = AreRestingBehind said packets workers
AreRestingWith packets said (Large workers) = AreRestingBehind said packets workers

-- they judged some packets
abbrev pub HaveJudgedSome : {T : Type 0} → SizedWorkers T → Type 0
HaveJudgedSome workers = (packets : List PacketFacts) × (said : List Verdict) × AreRestingWith packets said workers

-- the verdicts on these packets by workers with these orders, who know this then
abbrev pub AreSaidKnowing : Orders → List PacketFacts → List Verdict → Views → Type 0
AreSaidKnowing orders packets verdicts views = AreJudgedAgeing orders.deal orders.times orders.ages orders.policy packets verdicts views

-- so they are, whatever the workers know then
abbrev pub AreSaid : Orders → List PacketFacts → List Verdict → Type 0
AreSaid orders packets verdicts = (views : Views) × AreSaidKnowing orders packets verdicts views

-- callers of their tables that hold nothing, and these are the verdicts on these packets by workers who knew what the callers know
pub record AreSaidBy (orders : Orders) (packets : List PacketFacts) (verdicts : List Verdict) (callers : SizedCallers) : Type 0 where
  pub idle : AreIdleOf orders.tables callers
  pub said : AreSaidKnowing orders packets verdicts (views_with callers)

-- these are the verdicts on the packets that they judged, behind those that they handed over, and their callers
abbrev pub HaveEndedOn : {T : Type 0} → SizedWorkers T → List Verdict → SizedCallers → Type 0
HaveEndedOn workers verdicts callers = (said : List Verdict) (packets : List PacketFacts) → AreRestingWith packets said workers
    → AreSaidBy (orders_of workers) packets (said ++ verdicts) callers

-- ---- workers that hand over their verdicts

-- workers with these orders after these packets, of which they handed over this
pub record HaveSaidAfter {T : Type 0} (orders : Orders) (packets : List PacketFacts) (said : List Verdict) (workers : SizedWorkers T) : Type 0 where
  pub given : orders_of workers ≡ orders
  pub rest : AreRestingWith packets said workers

-- they handed over a verdict on each packet
abbrev pub HaveSaidAll : {T : Type 0} → SizedWorkers T → Type 0
HaveSaidAll workers = (orders : Orders) × (packets : List PacketFacts) × (said : List Verdict) × HaveSaidAfter orders packets said workers × (length said ≡ length packets)

-- these are their callers, and these verdicts are theirs, whatever they were
abbrev pub AreAllSaidBy : {T : Type 0} → SizedWorkers T → SizedCallers → Type 0
AreAllSaidBy workers callers = (orders : Orders) (packets : List PacketFacts) (said : List Verdict) → HaveSaidAfter orders packets said workers
    → length said ≡ length packets → AreSaidBy orders packets said callers

-- Workers that go on handed over this so far: a verdict on each packet. What the only one said are the verdicts by these orders
-- already; what several said is known to be that when they have ended.
pub record AreSaidSoFar (T : Type 0) (orders : Orders) (packets : List PacketFacts) (verdicts : List Verdict) : Type 0 where
  pub workers : SizedWorkers T
  pub after : HaveSaidAfter orders packets verdicts workers
  pub count : length verdicts ≡ length packets
  pub one : orders.deal.workers ≡ 1 → AreSaid orders packets verdicts

-- and the packets were counted where that is asked for
pub record HaveCountedAfter {T : Type 0} (orders : Orders) (asked : Bool) (packets : List PacketFacts) (said : List Verdict) (counted : Counted T) : Type 0 where
  pub after : HaveSaidAfter orders packets said counted.crew.workers
  pub each : length said ≡ length packets
  pub policy : policy_facts counted.policy.now ≡ orders.policy
  pub same : counted.asked ≡ asked
  pub counts : asked ≡ true → HaveCounted orders.policy packets said counted.counts

-- they have ended
pub record HaveEndedCounting (orders : Orders) (asked : Bool) (packets : List PacketFacts) (said : List Verdict) (counts : HitCounts) (callers : SizedCallers) : Type 0 where
  pub by : AreSaidBy orders packets said callers
  pub counted : asked ≡ true → HaveCounted orders.policy packets said counts
