mod WorkerLaws
