-- The pending control frames of a session, and the policies of its channels.
use Rattle.std.specs.Prelude.{◌≡◌, ℕ, List, length, map, replicate, slice_index_or, slice_set, Some, None}
use Rattle.lc_frame.specs.declared.channel.Channel.{Channel}
use Rattle.lc_frame.specs.declared.channel.Channel.TheVariants.{Reconciliation}
use Rattle.lc_frame.specs.Channel.{channel_count, number_of}
use Rattle.lc_peer.specs.Peer.{client, server}
use Rattle.lc_lines.specs.Outbound.{every_channel}
use Rattle.lc_lines.specs.Scheduler.{SchedulerState}
use Rattle.lc_owed.specs.declared.pending.Pending.{Pending}
use Rattle.lc_owed.specs.declared.policy.IssuePolicy.{IssuePolicy}
use Rattle.lc_owed.specs.declared.policy.PleadPolicy.{PleadPolicy}
use Rattle.lc_owed.specs.declared.policy.Policies.{Policies}
use Rattle.lc_owed.specs.Pending.{nothing_pending, with_plead}
use Rattle.lc_owed.specs.Policy.{new_policies, by_policy}

-- what is pending on each channel and the policies of each, by their numbers, and the channel that is served first
pub record OwedState : Type 0 where
  pub pending : List Pending
  pub policies : List Policies
  pub first : Channel

-- nothing is pending, and the policies are those of a new session
abbrev pub new_owed : OwedState
new_owed = record { pending = replicate channel_count nothing_pending; policies = replicate channel_count new_policies; first = Reconciliation }

-- each channel has its place
pub record AreOwedFields (pending : List Pending) (policies : List Policies) : Type 0 where
  pub places : length pending ≡ channel_count
  pub kinds : length policies ≡ channel_count

-- what is pending on a channel
abbrev pub pending_on : OwedState → Channel → Pending
pending_on o c = slice_index_or o.pending (number_of c) nothing_pending

-- the policies of a channel
abbrev pub policies_on : OwedState → Channel → Policies
policies_on o c = slice_index_or o.policies (number_of c) new_policies

-- this is pending on a channel
abbrev pub with_pending : OwedState → Channel → Pending → OwedState
with_pending o c p = record o { pending = slice_set o.pending (number_of c) p }

-- these are the policies of a channel
abbrev pub with_policies : OwedState → Channel → Policies → OwedState
with_policies o c p = record o { policies = slice_set o.policies (number_of c) p }

-- a plead is pending, and no policy issues above its target from then on
abbrev pub plead : OwedState → Channel → ℕ → OwedState
plead o c target = with_policies (with_pending o c (with_plead (pending_on o c) target)) c (record (policies_on o c) { target = Some target })

-- a channel issues by this policy, and up to no plead's target
abbrev pub with_issue_policy : OwedState → Channel → IssuePolicy → OwedState
with_issue_policy o c policy = with_policies o c (record (policies_on o c) { issue = policy; target = None })

-- a channel honours pleads by this policy
abbrev pub with_plead_policy : OwedState → Channel → PleadPolicy → OwedState
with_plead_policy o c policy = with_policies o c (record (policies_on o c) { plead = policy })

-- what is pending on a channel once its policies made the calls that are due by them
abbrev pub by_policies_on : OwedState → SchedulerState → Channel → Pending
by_policies_on o s c = by_policy (policies_on o c) (client s.peer c) (server s.peer c) (pending_on o c)

-- the policies of all channels make the calls that are due by them
abbrev pub by_policies : OwedState → SchedulerState → OwedState
by_policies o s = record o { pending = map (λ c. by_policies_on o s c) every_channel }
