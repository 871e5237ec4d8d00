-- The theorems: an accepted plan keeps its promise, and only a plan that can be made late is refused as late.
use Rattle.std.proofs.Common.{List}
use Rattle.schedule.specs.Layout.{System, InTime, LaidOut}
use Rattle.schedule.specs.TickRule.{started, Call, history}
use Rattle.schedule.specs.Promise.{Kept, KeptThroughout, Sound, Exact}
use Rattle.schedule.proofs.lateness.Invariant.{Safe, not_late, release_closed, safe_start, safe_call}
use Rattle.schedule.proofs.Histories.{each_beginning}
use Rattle.schedule.proofs.promises.Following.{SafeFacts}
use Rattle.schedule.proofs.promises.Kept.{kept}
use Rattle.schedule.proofs.overload.CanBeLate.{can_be_late}

-- The invariant gives what the promises need.
facts : (sys : System) → LaidOut sys → InTime sys → SafeFacts sys (Safe sys)
facts sys laid timely = record {
  safe_start = safe_start sys laid timely;
  safe_call = safe_call sys laid timely;
  size = λ s safe. safe.formed.size;
  shape = λ s safe. safe.formed.shapes;
  release_closed = release_closed sys laid;
  not_late = not_late sys laid timely;
}

-- The promise is kept on every list of calls.
pub sound : Sound
sound sys laid timely cs = kept sys laid (Safe sys) (facts sys laid timely) cs

-- And in each beginning of a history, since that is the history of a beginning of the calls.
pub sound_throughout : (sys : System) → LaidOut sys → InTime sys → (cs : List Call) → KeptThroughout sys (history sys (started sys) cs)
sound_throughout sys laid timely cs = each_beginning sys (started sys) (Kept sys) (sound sys laid timely) cs

-- Where the curves are subadditive, a part has no response time exactly when some calls make a part late.
pub exact : Exact
exact sys laid sub = (can_be_late sys laid sub, λ cs late timely. (sound sys laid timely cs).never_late late)
