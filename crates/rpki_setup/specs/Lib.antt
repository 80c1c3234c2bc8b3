-- Said in contracts, and to be believed: all but ResponseStep and Writing. Root, ChildRequest,
-- ParentResponse, PublisherRequest, RepositoryResponse, RepoInfo and ServiceUri are the tables,
-- Answers and Shown what calls answer and errors print. Means:
-- ResponseStep for a loop, Writing for the writers.
pub mod Answers
pub mod ChildRequest
pub mod ParentResponse
pub mod PublisherRequest
pub mod RepoInfo
pub mod RepositoryResponse
pub mod ResponseStep
pub mod Root
pub mod ServiceUri
pub mod Shown
pub mod Writing
