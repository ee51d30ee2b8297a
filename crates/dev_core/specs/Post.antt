-- The keys of posts and of log entries.
use Rattle.lab_num.specs.declared.key.Key.{Key}
use Rattle.dev_core.specs.declared.post.Entry.{Entry}
use Rattle.dev_core.specs.declared.post.Post.{Post}

abbrev pub post_key : Post → Key
post_key post = post.key

abbrev pub entry_key : Entry → Key
entry_key entry = entry.key
