use Rattle.std.proofs.Common.{◌≡◌, ℕ, List, ◌++◌, None, IfOk, OnOk, subst, sym, ap, ◌∙◌, append-nil}
use Rattle.std.specs.Prelude.{codes}
use Rattle.rpki_text.specs.Uri.{rsync, fault_of, joined}
use Rattle.rpki_setup.specs.RepoInfo.{RepoInfoFields, ca_repository_text}
use Rattle.rpki_setup.proofs.Repositories.{directory_text}
use Rattle.rpki_setup.proofs.repo_info.RepoInfo.ca_repository.Goals as goal

pub returns-clause-text : goal.returns-clause-text
returns-clause-text c =
    let info : RepoInfoFields = record { sia_base = c.self.inside.sia_base; rrdp_notification_uri = c.self.inside.rrdp_notification_uri } in
    let path : c.deref.result.now ≡ c.args.name_space.now ++ codes "/" =
    c.deref.ensures.value ∙ c.in_ok-path.ensures ∙ append-nil _ ∙ ap (λ (l : List ℕ). l ++ codes "/") c.as_bytes.ensures.value in
    let is : joined info.sia_base c.deref.result.now ≡ ca_repository_text info c.args.name_space.now =
    ap (joined info.sia_base) path ∙ sym (directory_text info c.args.name_space.now (sym c.is_empty.ensures ∙ c.if-is_empty.false)) in
    subst (λ (m : RepoInfoFields). IfOk c.join.result (λ u. u ≡ ca_repository_text m c.args.name_space.now)) c.self.view_is (subst (λ (l : List ℕ). IfOk c.join.result (λ u. u ≡ l)) is c.join.ensures.text)

pub returns-clause-accepted : goal.returns-clause-accepted
returns-clause-accepted c =
    let info : RepoInfoFields = record { sia_base = c.self.inside.sia_base; rrdp_notification_uri = c.self.inside.rrdp_notification_uri } in
    let path : c.deref.result.now ≡ c.args.name_space.now ++ codes "/" =
    c.deref.ensures.value ∙ c.in_ok-path.ensures ∙ append-nil _ ∙ ap (λ (l : List ℕ). l ++ codes "/") c.as_bytes.ensures.value in
    let is : joined info.sia_base c.deref.result.now ≡ ca_repository_text info c.args.name_space.now =
    ap (joined info.sia_base) path ∙ sym (directory_text info c.args.name_space.now (sym c.is_empty.ensures ∙ c.if-is_empty.false)) in
    subst (λ (m : RepoInfoFields). OnOk c.join.result (fault_of rsync (ca_repository_text m c.args.name_space.now) ≡ None)) c.self.view_is (subst (λ (l : List ℕ). OnOk c.join.result (fault_of rsync l ≡ None)) is c.join.ensures.accepted)
