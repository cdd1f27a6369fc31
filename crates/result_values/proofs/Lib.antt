pub mod DomainLabels
pub mod ValueCases
pub mod ValueGot
pub mod ValueExamples
pub mod PropertyValueGot
