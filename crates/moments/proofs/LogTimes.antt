-- The text of a moment's time.
use Rattle.std.proofs.Common.{◌≡◌, sym, subst, ℕ, List}
use Rattle.jiff_core.specs.declared.timestamp.Timestamp.{Timestamp}
use Rattle.moments.specs.LogTimes.{IsLogTime, IsTextOf, IsTimeOf}
use Rattle.moments.specs.declared.moment.NamedTime.{NamedTime}

pub text_of : (now : Timestamp) (moment : NamedTime) (time : Timestamp) (text written : List ℕ)
    → IsTimeOf now moment time → IsLogTime time written → text ≡ written
    → IsTextOf now moment text
text_of now moment time text written is log same = record {
  time = time;
  time_is = is;
  text_is = subst (IsLogTime time) (sym same) log;
}
