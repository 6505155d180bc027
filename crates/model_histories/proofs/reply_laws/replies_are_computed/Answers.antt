use Rattle.std.proofs.Common.{sym, subst}
use Rattle.model_histories.proofs.DialLemmas.{dial_goes, goes_dial}
use Rattle.model_histories.proofs.ReplyLemmas.{submit_is, submit_back, cancel_is, cancel_back, change_is, change_back, preconnect_is, preconnect_back, resolved_is, resolved_back, shut_is, shut_back, dial_is, dial_back}
use Rattle.model_histories.specs.Replies.{IsSubmitReply, IsCancelReply, IsChangeReply, IsPreconnectReply, IsResolvedReply, IsShutReply}
use Rattle.model_histories.proofs.reply_laws.replies_are_computed.Goals as goal

pub returns : goal.returns
returns c = record {
  submit = λ s ask r. (submit_back s ask r, λ e. subst (IsSubmitReply s ask) (sym e) (submit_is s ask));
  cancel = λ s who x r. (cancel_back s who x r, λ e. subst (IsCancelReply s who x) (sym e) (cancel_is s who x));
  reprioritise = λ s who x r. (change_back s who x r, λ e. subst (IsChangeReply s who x) (sym e) (change_is s who x));
  preconnect = λ s g count r. (preconnect_back s g count r, λ e. subst (IsPreconnectReply s g count) (sym e) (preconnect_is s g count));
  resolved = λ s addresses r. (resolved_back s addresses r, λ e. subst (IsResolvedReply s addresses) (sym e) (resolved_is s addresses));
  shutdown = λ s r. (shut_back s r, λ e. subst (IsShutReply s) (sym e) (shut_is s));
  dial = λ s n target. ((λ d. (dial_back s n target d, goes_dial s n target d)), (λ (h, g). dial_goes s n.0 target h g));
  dials = λ s n h. let d = dial_is s n h in (d.0.group.target, goes_dial s (record { 0 = n }) d.0.group.target d.2);
}
