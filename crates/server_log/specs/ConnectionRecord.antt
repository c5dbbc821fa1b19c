-- What the log keeps of a connection.
use Rattle.std.specs.Prelude.{◌≡◌, [], None, false}
use Rattle.server_log.specs.declared.connection_record.ConnectionRecord.{ConnectionRecord}

-- nothing yet
pub record IsEmptyRecord (recorded : ConnectionRecord) : Type 0 where
  pub generation : recorded.generation ≡ 0
  pub forwarded : recorded.forwarded ≡ None
  pub lacks_id : recorded.lacks_id ≡ false
  pub request_id : recorded.request_id ≡ None
  pub cause : recorded.cause ≡ None
  pub bytes : recorded.bytes ≡ 0
  pub events : recorded.events.items ≡ []
  pub apps : recorded.apps.items ≡ []

-- the two agree on the request, its results, and whether they are kept
pub record IsSameRequest (old new : ConnectionRecord) : Type 0 where
  pub is_kept : new.is_kept ≡ old.is_kept
  pub generation : new.generation ≡ old.generation
  pub lacks_id : new.lacks_id ≡ old.lacks_id
  pub request_id : new.request_id ≡ old.request_id
  pub texts : new.texts ≡ old.texts
  pub events : new.events ≡ old.events
  pub apps : new.apps ≡ old.apps
  pub is_cut : new.is_cut ≡ old.is_cut
