use Rattle.std.proofs.Common.{◌≡◌, ◌≢◌, ℕ, List, ◌++◌, Some, None, IfOk, IfErr, OnOk, subst, sym, ap, ◌∙◌}
use Rattle.std.specs.Prelude.{codes}
use Rattle.rpki_text.specs.Uri.{rsync, fault_of, joined, without_slash}
use Rattle.rpki_text.specs.declared.uri.Error.TheVariants as uri
use Rattle.rpki_setup.specs.RepoInfo.{RepoInfoFields, resolved_text}
use Rattle.rpki_setup.proofs.Repositories.{file_text}
use Rattle.rpki_setup.proofs.repo_info.RepoInfo.resolve.Goals as goal

pub returns-clause-text : goal.returns-clause-text
returns-clause-text c =
    let info : RepoInfoFields = record { sia_base = c.self.inside.sia_base; rrdp_notification_uri = c.self.inside.rrdp_notification_uri } in
    let path : c.deref.result.now ≡ (c.args.name_space.now ++ codes "/") ++ c.without_slash.result.now =
    c.deref.ensures.value ∙ c.in_ok-path.ensures ∙ ap (λ (l : List ℕ). (l ++ codes "/") ++ c.without_slash.result.now) c.as_bytes-2.ensures.value in
    let inside : c.without_slash.result.now ≡ without_slash c.args.file_name.now = c.without_slash.ensures ∙ ap without_slash c.as_bytes-3.ensures.value in
    let is : joined info.sia_base c.deref.result.now ≡ resolved_text info c.args.name_space.now c.args.file_name.now =
    ap (joined info.sia_base) path ∙ file_text info c.args.name_space.now c.args.file_name.now c.without_slash.result.now (sym c.is_empty.ensures ∙ c.if-is_empty.false) inside in
    subst (λ (m : RepoInfoFields). IfOk c.join-2.result (λ u. u ≡ resolved_text m c.args.name_space.now c.args.file_name.now)) c.self.view_is (subst (λ (l : List ℕ). IfOk c.join-2.result (λ u. u ≡ l)) is c.join-2.ensures.text)

pub returns-clause-accepted : goal.returns-clause-accepted
returns-clause-accepted c =
    let info : RepoInfoFields = record { sia_base = c.self.inside.sia_base; rrdp_notification_uri = c.self.inside.rrdp_notification_uri } in
    let path : c.deref.result.now ≡ (c.args.name_space.now ++ codes "/") ++ c.without_slash.result.now =
    c.deref.ensures.value ∙ c.in_ok-path.ensures ∙ ap (λ (l : List ℕ). (l ++ codes "/") ++ c.without_slash.result.now) c.as_bytes-2.ensures.value in
    let inside : c.without_slash.result.now ≡ without_slash c.args.file_name.now = c.without_slash.ensures ∙ ap without_slash c.as_bytes-3.ensures.value in
    let is : joined info.sia_base c.deref.result.now ≡ resolved_text info c.args.name_space.now c.args.file_name.now =
    ap (joined info.sia_base) path ∙ file_text info c.args.name_space.now c.args.file_name.now c.without_slash.result.now (sym c.is_empty.ensures ∙ c.if-is_empty.false) inside in
    subst (λ (m : RepoInfoFields). OnOk c.join-2.result (fault_of rsync (resolved_text m c.args.name_space.now c.args.file_name.now) ≡ None)) c.self.view_is (subst (λ (l : List ℕ). OnOk c.join-2.result (fault_of rsync l ≡ None)) is c.join-2.ensures.accepted)

pub returns-clause-fault : goal.returns-clause-fault
returns-clause-fault c =
    let info : RepoInfoFields = record { sia_base = c.self.inside.sia_base; rrdp_notification_uri = c.self.inside.rrdp_notification_uri } in
    let path : c.deref.result.now ≡ (c.args.name_space.now ++ codes "/") ++ c.without_slash.result.now =
    c.deref.ensures.value ∙ c.in_ok-path.ensures ∙ ap (λ (l : List ℕ). (l ++ codes "/") ++ c.without_slash.result.now) c.as_bytes-2.ensures.value in
    let inside : c.without_slash.result.now ≡ without_slash c.args.file_name.now = c.without_slash.ensures ∙ ap without_slash c.as_bytes-3.ensures.value in
    let is : joined info.sia_base c.deref.result.now ≡ resolved_text info c.args.name_space.now c.args.file_name.now =
    ap (joined info.sia_base) path ∙ file_text info c.args.name_space.now c.args.file_name.now c.without_slash.result.now (sym c.is_empty.ensures ∙ c.if-is_empty.false) inside in
    subst (λ (m : RepoInfoFields). IfErr c.join-2.result (λ e. e ≢ uri.OutOfMemory → fault_of rsync (resolved_text m c.args.name_space.now c.args.file_name.now) ≡ Some e)) c.self.view_is (subst (λ (l : List ℕ). IfErr c.join-2.result (λ e. e ≢ uri.OutOfMemory → fault_of rsync l ≡ Some e)) is c.join-2.ensures.fault)
